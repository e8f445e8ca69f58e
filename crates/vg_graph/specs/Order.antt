-- The nodes that a node uses, in an order in which operands come first.
use Rattle.std.specs.Prelude.{◌≡◌, ℕ, ◌<◌, ◌⊎◌, Bool, true, false, List, [], ◌∷◌, length, Option, Some, None, slice_get, slice_index_or, sum_by, if◌then◌else◌}
use Rattle.vg_isa.specs.declared.expr.Expr.{Expr}
use Rattle.vg_graph.specs.declared.node.Node.{Node}
use Rattle.vg_graph.specs.Node.{IsIn, args_of}
use Rattle.vg_graph.specs.Tree.{IsOperand, IsTree}

-- at each node stands a tree
abbrev pub AreTrees : List Node → Type 0
AreTrees nodes = (n : ℕ) → n < length nodes → (e : Expr) × IsTree nodes n e

-- the operands of a node stand before its place in an order
pub record IsBehindOperands (nodes : List Node) (order : List ℕ) (place n : ℕ) : Type 0 where
  pub within : n < length nodes
  pub operands : (k : ℕ) → IsOperand nodes k n → (before : ℕ) × (before < place) × (slice_get order before ≡ Some k)

-- each of these nodes stands behind its operands
abbrev pub IsOrder : List Node → List ℕ → Type 0
IsOrder nodes order = (place n : ℕ) → slice_get order place ≡ Some n → IsBehindOperands nodes order place n

-- a number is marked
abbrev pub IsMarked : List Bool → ℕ → Type 0
IsMarked marks n = slice_get marks n ≡ Some true

-- the first number of a list that isn't marked; None where all are
abbrev pub first_unmarked_in : List Bool → List ℕ → Option ℕ
first_unmarked_in marks [] = None
first_unmarked_in marks (n ∷ ns) = if slice_index_or marks n false then first_unmarked_in marks ns else Some n

-- an order of nodes, in which those that are marked stand
pub record IsListing (nodes : List Node) (order : List ℕ) (placed : List Bool) : Type 0 where
  pub count : length placed ≡ length nodes
  pub ordered : IsOrder nodes order
  pub listed : (k : ℕ) → IsMarked placed k → IsIn order k

-- how many aren't marked
abbrev pub unmarked : List Bool → ℕ
unmarked marks = sum_by (λ (b : Bool). if b then 0 else 1) marks

-- a way from nodes to their operands
abbrev pub IsPath : List Node → List ℕ → Type 0
IsPath nodes [] = Unit {0}
IsPath nodes (n ∷ []) = Unit {0}
IsPath nodes (n ∷ k ∷ ks) = IsOperand nodes k n × IsPath nodes (k ∷ ks)

-- a node that was gone into stands in the order, or is on the way
abbrev pub IsOnTheWay : List Bool → List Bool → List ℕ → Type 0
IsOnTheWay placed opened stack = (k : ℕ) → IsMarked opened k → IsMarked placed k ⊎ IsIn stack k

-- the numbers are those of nodes
abbrev pub AreWithin : List Node → List ℕ → Type 0
AreWithin nodes ns = (n : ℕ) → IsIn ns n → n < length nodes
