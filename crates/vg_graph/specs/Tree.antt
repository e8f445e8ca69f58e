-- The trees that stand at the nodes of a graph.
use Rattle.std.specs.Prelude.{◌≡◌, ℕ, ◌<◌, List, length, Some, slice_get, IsTrue}
use Rattle.vg_isa.specs.declared.isa.Parts.{Parts}
use Rattle.vg_isa.specs.declared.expr.Expr.{Expr, map-Expr, roll-Expr}
use Rattle.vg_isa.specs.declared.expr.Expr.TheOpen.{Expr-F}
use Rattle.vg_isa.specs.Typing.{is_typed}
use Rattle.vg_graph.specs.declared.node.Node.{Node}
use Rattle.vg_graph.specs.Node.{IsIn, args_of, node_of, operands_in}

-- The tree at a node: its operator over the trees at its operands.
pub data IsTree (nodes : List Node) : ℕ → Expr → Type 0 where
  over :
      (n : ℕ) (x : Expr-F ℕ) (tree : ℕ → Expr)
      → slice_get nodes n ≡ Some (node_of x)
      → ((k : ℕ) → IsIn (operands_in x) k → IsTree nodes k (tree k))
      → IsTree nodes n (roll-Expr (map-Expr ℕ Expr tree x))

-- there is a tree at the node, and each operand in it has the width that its place needs
pub record HasTree (d : Parts) (nodes : List Node) (n : ℕ) : Type 0 where
  pub tree : Expr
  pub stands : IsTree nodes n tree
  pub typed : IsTrue (is_typed d tree)

-- each node has a tree
abbrev pub HaveTrees : Parts → List Node → Type 0
HaveTrees d nodes = (n : ℕ) → n < length nodes → HasTree d nodes n

-- m is an operand of the node n
pub record IsOperand (nodes : List Node) (m n : ℕ) : Type 0 where
  pub node : Node
  pub stands : slice_get nodes n ≡ Some node
  pub among : IsIn (args_of node) m

-- the node n uses m: m is an operand of it, or of a node that it uses
pub data Uses (nodes : List Node) (m : ℕ) : ℕ → Type 0 where
  itself : (n : ℕ) → IsOperand nodes m n → Uses nodes m n
  through : (n k : ℕ) → IsOperand nodes k n → Uses nodes m k → Uses nodes m n
