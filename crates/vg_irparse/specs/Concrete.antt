-- Concrete trees of types, initialisers and attributes: one constructor for each alternative of the grammar. What the rule
-- writes stands in the tree by its place alone; which bytes it has, `Spelling` says.
use Rattle.std.specs.Prelude.{ℕ, List, Option}
use Rattle.vg_irparse.specs.Placed.{Placed, Mark}

mutual
  pub data TypeTree : Type 0 where
    -- i1, i8, i16, i32, i64
    integer : (width : ℕ) → (at : Mark) → TypeTree
    pointer : (at : Mark) → TypeTree
    -- [ count x element ]
    array : (opening : Mark) → (count : Placed) → (by : Mark) → TypeTree → (closing : Mark) → TypeTree
    -- { field , .. }
    structure : (opening : Mark) → TypeTree → MoreTypes → (closing : Mark) → TypeTree
    -- %name
    named : Placed → TypeTree

  pub data MoreTypes : Type 0 where
    no_more_type : MoreTypes
    one_more_type : (comma : Mark) → TypeTree → MoreTypes → MoreTypes

mutual
  pub data InitialTree : Type 0 where
    -- a number, a word, c"..", or @name
    simple : Placed → InitialTree
    -- [ type initialiser , .. ]
    elements : (opening : Mark) → TypeTree → InitialTree → MoreInitials → (closing : Mark) → InitialTree
    -- { type initialiser , .. }
    fields : (opening : Mark) → TypeTree → InitialTree → MoreInitials → (closing : Mark) → InitialTree

  pub data MoreInitials : Type 0 where
    no_more_initial : MoreInitials
    one_more_initial : (comma : Mark) → TypeTree → InitialTree → MoreInitials → MoreInitials

-- void, or a type
pub data ResultTree : Type 0 where
  void : (at : Mark) → ResultTree
  giving : TypeTree → ResultTree

-- an integer type where no other may stand
pub record IntegerTree : Type 0 where
  pub width : ℕ
  pub at : Mark

pub data AttributeTree : Type 0 where
  one_word : Placed → AttributeTree
  -- align n
  aligned : (at : Mark) → (number : Placed) → AttributeTree
  -- dereferenceable ( n )
  dereferenceable : (at : Mark) → (opening : Mark) → (number : Placed) → (closing : Mark) → AttributeTree
  -- captures ( .. ), range ( .. )
  bracketed : Placed → (opening : Mark) → List Placed → (closing : Mark) → AttributeTree

pub data FunctionAttributeTree : Type 0 where
  -- #n
  group : Placed → FunctionAttributeTree
  function_word : Placed → FunctionAttributeTree
  -- align n
  function_aligned : (at : Mark) → (number : Placed) → FunctionAttributeTree

-- one or more, each but the first behind a comma
pub record Row (X : Type 0) : Type 0 where
  pub first : X
  pub more : List (Mark × X)

-- , align n
pub record AlignTree : Type 0 where
  pub comma : Mark
  pub at : Mark
  pub number : Placed

-- type operand
pub record TypedTree : Type 0 where
  pub ty : TypeTree
  pub value : Placed

-- ptr operand
pub record PointerTree : Type 0 where
  pub ptr : Mark
  pub value : Placed

-- label %name
pub record LabelTree : Type 0 where
  pub at : Mark
  pub name : Placed

-- %r =
pub record ResultName : Type 0 where
  pub name : Placed
  pub equal : Mark
