-- Concrete trees of items, roles, stage lines and whole descriptions, as `Concrete` has those of expressions: signs and
-- reserved words by their places alone.
use Rattle.std.specs.Prelude.{ℕ, List, Option}
use Rattle.vg_ast.specs.declared.name.Name.{Name}
use Rattle.vg_ast.specs.declared.part.NumberFormat.{NumberFormat}
use Rattle.vg_ast.specs.Concrete.{Expr, TypeTree, Statement}

-- one or more, each but the first behind a comma
pub record Row (X : Type 0) : Type 0 where
  pub first : X
  pub more : List (ℕ × X)

-- high .. low, or one bit
pub record Range : Type 0 where
  pub high : Expr
  pub low : Option (ℕ × Expr)

-- name [ ranges ]
pub record Field : Type 0 where
  pub name : Name
  pub opening : ℕ
  pub ranges : Row Range
  pub closing : ℕ

-- name : type
pub record Parameter : Type 0 where
  pub name : Name
  pub colon : ℕ
  pub declared : TypeTree

-- name = value
pub record Fix : Type 0 where
  pub name : Name
  pub equal : ℕ
  pub value : Expr

pub data Part : Type 0 where
  text : (at : ℕ) → List ℕ → Part
  mnemonic : (at : ℕ) → Part
  -- register ( file ( field ) )
  register_part : (at : ℕ) → (opening : ℕ) → Name → (inner_opening : ℕ) → Name → (inner_closing : ℕ) → (closing : ℕ) → Part
  -- format ( field )
  number_part : NumberFormat → (at : ℕ) → (opening : ℕ) → Name → (closing : ℕ) → Part
  -- target ( field , shift )
  target : (at : ℕ) → (opening : ℕ) → Name → (comma : ℕ) → Expr → (closing : ℕ) → Part

pub data Item : Type 0 where
  -- constant name = value
  constant : (at : ℕ) → Name → (equal : ℕ) → Expr → Item
  -- using name = type
  using : (at : ℕ) → Name → (equal : ℕ) → TypeTree → Item
  -- function name ( parameters ) -> type = body
  function : (at : ℕ) → Name → (opening : ℕ) → Option (Row Parameter) → (closing : ℕ) → (arrow : ℕ) → TypeTree → (equal : ℕ) → Expr → Item
  -- program counter name : type
  program_counter : (at : ℕ) → (at_counter : ℕ) → Name → (colon : ℕ) → TypeTree → Item
  -- memory name : type -> type
  memory : (at : ℕ) → Name → (colon : ℕ) → TypeTree → (arrow : ℕ) → TypeTree → Item
  -- register name : type
  register : (at : ℕ) → Name → (colon : ℕ) → TypeTree → Item
  -- register file name : type -> type [zero index]
  register_file : (at : ℕ) → (at_file : ℕ) → Name → (colon : ℕ) → TypeTree → (arrow : ℕ) → TypeTree → Option (ℕ × Expr) → Item
  -- format name : type = { fields }
  format : (at : ℕ) → Name → (colon : ℕ) → TypeTree → (equal : ℕ) → (opening : ℕ) → Row Field → (closing : ℕ) → Item
  -- instruction name : format = behaviour
  instruction : (at : ℕ) → Name → (colon : ℕ) → Name → (equal : ℕ) → Statement → Item
  -- encoding name = { fixes }
  encoding : (at : ℕ) → Name → (equal : ℕ) → (opening : ℕ) → Option (Row Fix) → (closing : ℕ) → Item
  -- assembly name = ( parts )
  assembly : (at : ℕ) → Name → (equal : ℕ) → (opening : ℕ) → Row Part → (closing : ℕ) → Item

-- file ( index )
pub record Register : Type 0 where
  pub file : Name
  pub opening : ℕ
  pub index : Expr
  pub closing : ℕ

pub data Role : Type 0 where
  -- stack pointer = register, and the like
  stack_pointer : (at : ℕ) → (second : ℕ) → (equal : ℕ) → Register → Role
  return_address : (at : ℕ) → (second : ℕ) → (equal : ℕ) → Register → Role
  return_value : (at : ℕ) → (second : ℕ) → (equal : ℕ) → Register → Role
  -- arguments = registers, and the like
  arguments : (at : ℕ) → (equal : ℕ) → Row Register → Role
  temporaries : (at : ℕ) → (equal : ℕ) → Row Register → Role
  saved : (at : ℕ) → (equal : ℕ) → Row Register → Role
  -- code = base, data = base
  code_base : (at : ℕ) → (equal : ℕ) → Expr → Role
  data_base : (at : ℕ) → (equal : ℕ) → Expr → Role
  -- stack = low .. high
  stack : (at : ℕ) → (equal : ℕ) → Expr → (dots : ℕ) → Expr → Role

pub data Act : Type 0 where
  read : (at : ℕ) → Name → Act
  write : (at : ℕ) → Name → Act
  compute : (at : ℕ) → Act
  resolve : (at : ℕ) → Act

pub data MicroItem : Type 0 where
  -- stage name [: acts]
  stage : (at : ℕ) → Name → Option (ℕ × Row Act) → MicroItem
  -- forward name
  forward : (at : ℕ) → Name → MicroItem

-- Headings, each up to its `{`.

-- instruction set architecture name = {
pub record IsaHeading : Type 0 where
  pub at : ℕ
  pub at_set : ℕ
  pub at_architecture : ℕ
  pub name : Name
  pub equal : ℕ
  pub opening : ℕ

-- application binary interface for name = {
pub record AbiHeading : Type 0 where
  pub at : ℕ
  pub at_binary : ℕ
  pub at_interface : ℕ
  pub at_for : ℕ
  pub name : Name
  pub equal : ℕ
  pub opening : ℕ

-- micro architecture for name = {
pub record MicroHeading : Type 0 where
  pub at : ℕ
  pub at_architecture : ℕ
  pub at_for : ℕ
  pub name : Name
  pub equal : ℕ
  pub opening : ℕ

-- a heading, what stands in its braces, and its `}`
pub record Section (H X : Type 0) : Type 0 where
  pub heading : H
  pub inner : List X
  pub closing : ℕ

pub record Description : Type 0 where
  pub isa : Section IsaHeading Item
  pub abi : Option (Section AbiHeading Role)
  pub micro : Option (Section MicroHeading MicroItem)
