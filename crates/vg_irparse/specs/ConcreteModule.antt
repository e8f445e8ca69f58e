-- Concrete trees of blocks, functions, globals and modules.
use Rattle.std.specs.Prelude.{ℕ, List, Option}
use Rattle.vg_irparse.specs.Placed.{Placed, Mark}
use Rattle.vg_irparse.specs.Concrete.{TypeTree, MoreTypes, InitialTree, ResultTree, AttributeTree, FunctionAttributeTree, Row, AlignTree}
use Rattle.vg_irparse.specs.ConcreteInstruction.{PhiTree, InstructionTree, TerminatorTree, Paired}

-- name :
pub record BlockName : Type 0 where
  pub name : Placed
  pub colon : Mark

-- phis, other instructions and a terminator
pub record BodyTree : Type 0 where
  pub phis : List (Paired PhiTree)
  pub instructions : List (Paired InstructionTree)
  pub terminator : Paired TerminatorTree

-- the first block, with or without its name
pub record EntryTree : Type 0 where
  pub name : Option BlockName
  pub body : BodyTree

-- any other block
pub record BlockTree : Type 0 where
  pub name : BlockName
  pub body : BodyTree

-- type {attribute} [%name]
pub record ParameterTree : Type 0 where
  pub ty : TypeTree
  pub attributes : List AttributeTree
  pub name : Option Placed

-- define [linkage] [dso_local] [convention] {attribute} T @name ( parameters ) [address] {function attribute} { blocks }
pub record FunctionTree : Type 0 where
  pub at : Mark
  pub linkage : Option Placed
  pub dso_local : Option Mark
  pub convention : Option Placed
  pub attributes : List AttributeTree
  pub gives : ResultTree
  pub name : Placed
  pub opening : Mark
  pub parameters : Option (Row ParameterTree)
  pub closing : Mark
  pub address : Option Placed
  pub function_attributes : List FunctionAttributeTree
  pub body_opening : Mark
  pub entry : EntryTree
  pub blocks : List BlockTree
  pub body_closing : Mark

-- @name = [linkage] [dso_local] [address] (global | constant) T initialiser [, align n]
pub record GlobalTree : Type 0 where
  pub name : Placed
  pub equal : Mark
  pub linkage : Option Placed
  pub dso_local : Option Mark
  pub address : Option Placed
  pub kind : Placed
  pub ty : TypeTree
  pub initial : InitialTree
  pub align : Option AlignTree

-- %name = type { T , .. }
pub record StructureTree : Type 0 where
  pub name : Placed
  pub equal : Mark
  pub word : Mark
  pub opening : Mark
  pub first : TypeTree
  pub more : MoreTypes
  pub closing : Mark

pub data ItemTree : Type 0 where
  -- source_filename = ".."
  source_filename : (at : Mark) → (equal : Mark) → (text : Placed) → ItemTree
  -- target word = ".."
  target : (at : Mark) → (word : Placed) → (equal : Mark) → (text : Placed) → ItemTree
  -- attributes #n = { .. }
  attributes : (at : Mark) → (name : Placed) → (equal : Mark) → (opening : Mark) → List Placed → (closing : Mark) → ItemTree
  -- a line that begins with `!`, from behind it
  metadata_line : (at : ℕ) → List Placed → ItemTree
  -- a line from `declare` on
  declaration_line : (at : Mark) → List Placed → ItemTree
  structure_item : StructureTree → ItemTree
  global_item : GlobalTree → ItemTree
  function_item : FunctionTree → ItemTree

abbrev pub ModuleTree : Type 0
ModuleTree = List ItemTree
