-- Concrete trees of instructions.
use Rattle.std.specs.Prelude.{ℕ, List, Option}
use Rattle.vg_irparse.specs.Placed.{Placed, Mark}
use Rattle.vg_irparse.specs.Concrete.{TypeTree, ResultTree, IntegerTree, AttributeTree, FunctionAttributeTree, Row, AlignTree, TypedTree, PointerTree, LabelTree, ResultName}

-- , iN n
pub record CountTree : Type 0 where
  pub comma : Mark
  pub ty : IntegerTree
  pub number : Placed

-- , iN i
pub record IndexTree : Type 0 where
  pub comma : Mark
  pub ty : IntegerTree
  pub value : Placed

-- type {attribute} operand
pub record ArgumentTree : Type 0 where
  pub ty : TypeTree
  pub attributes : List AttributeTree
  pub value : Placed

pub data InstructionTree : Type 0 where
  -- %r = op {flag} T a , b
  binary : ResultName → (word : Placed) → (flags : List Placed) → TypeTree → (left : Placed) → (comma : Mark) → (right : Placed) → InstructionTree
  -- %r = icmp [samesign] P T a , b
  compare : ResultName → (at : Mark) → (samesign : Option Mark) → (predicate : Placed) → TypeTree → (left : Placed) → (comma : Mark) → (right : Placed) → InstructionTree
  -- %r = select i1 c , T a , T b
  select : ResultName → (at : Mark) → (bit : Mark) → (condition : Placed) → (comma : Mark) → TypedTree → (comma : Mark) → TypedTree → InstructionTree
  -- %r = op {flag} T a to U
  cast : ResultName → (word : Placed) → (flags : List Placed) → TypedTree → (at_to : Mark) → TypeTree → InstructionTree
  -- %r = freeze T a
  freeze : ResultName → (at : Mark) → TypedTree → InstructionTree
  -- %r = alloca T [, iN n] [, align n]
  alloca : ResultName → (at : Mark) → TypeTree → Option CountTree → Option AlignTree → InstructionTree
  -- %r = load [volatile] T , ptr p [, align n]
  load : ResultName → (at : Mark) → (volatile : Option Mark) → TypeTree → (comma : Mark) → PointerTree → Option AlignTree → InstructionTree
  -- store [volatile] T v , ptr p [, align n]
  store : (at : Mark) → (volatile : Option Mark) → TypedTree → (comma : Mark) → PointerTree → Option AlignTree → InstructionTree
  -- %r = getelementptr {flag} T , ptr p {, iN i}
  element_pointer : ResultName → (at : Mark) → (flags : List Placed) → TypeTree → (comma : Mark) → PointerTree → List IndexTree → InstructionTree
  -- [%r =] [tail or notail] call [convention] {attribute} T @f ( arguments ) {function attribute}
  call : Option ResultName → (tail : Option Placed) → (at : Mark) → (convention : Option Placed) → List AttributeTree → ResultTree → (callee : Placed)
      → (opening : Mark) → Option (Row ArgumentTree) → (closing : Mark) → List FunctionAttributeTree → InstructionTree

-- T n , label %b
pub record CaseTree : Type 0 where
  pub ty : TypeTree
  pub number : Placed
  pub comma : Mark
  pub target : LabelTree

pub data TerminatorTree : Type 0 where
  -- br label %b
  jump : (at : Mark) → LabelTree → TerminatorTree
  -- br i1 c , label %a , label %b
  branch : (at : Mark) → (bit : Mark) → (condition : Placed) → (comma : Mark) → LabelTree → (comma : Mark) → LabelTree → TerminatorTree
  -- switch T v , label %d [ cases ]
  switch : (at : Mark) → TypedTree → (comma : Mark) → LabelTree → (opening : Mark) → List CaseTree → (closing : Mark) → TerminatorTree
  -- ret T v
  return : (at : Mark) → TypedTree → TerminatorTree
  -- ret void
  return_void : (at : Mark) → (void : Mark) → TerminatorTree
  unreachable : (at : Mark) → TerminatorTree

-- [ operand , %b ]
pub record IncomingTree : Type 0 where
  pub opening : Mark
  pub value : Placed
  pub comma : Mark
  pub block : Placed
  pub closing : Mark

-- %r = phi T incoming {, incoming}
pub record PhiTree : Type 0 where
  pub result_name : ResultName
  pub at : Mark
  pub ty : TypeTree
  pub incoming : Row IncomingTree

-- , !name !n
pub record PairTree : Type 0 where
  pub comma : Mark
  pub name_sign : Mark
  pub name : Placed
  pub number_sign : Mark
  pub number : Placed

-- a phi, an instruction or a terminator with the pairs behind it
pub record Paired (X : Type 0) : Type 0 where
  pub body : X
  pub pairs : List PairTree
