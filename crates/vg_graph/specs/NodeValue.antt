-- The value of a node, for an instruction word in a state.
use Rattle.std.specs.Prelude.{◌≡◌, ℕ, List, Some, slice_get}
use Rattle.vg_bits.specs.BitValue.{BitValue}
use Rattle.vg_isa.specs.declared.isa.Parts.{Parts}
use Rattle.vg_isa.specs.declared.expr.Expr.{map-Expr}
use Rattle.vg_isa.specs.declared.expr.Expr.TheOpen.{Expr-F}
use Rattle.vg_isa.specs.Value.{Reads, value_step}
use Rattle.vg_graph.specs.declared.node.Node.{Node}
use Rattle.vg_graph.specs.Node.{IsIn, node_of, operands_in}

-- The value of a node: what its operator makes of the values of its operands.
pub data HasValue (d : Parts) (nodes : List Node) (word : ℕ) (s : Reads) : ℕ → BitValue → Type 0 where
  worth :
      (n : ℕ) (x : Expr-F ℕ) (value : ℕ → BitValue)
      → slice_get nodes n ≡ Some (node_of x)
      → ((k : ℕ) → IsIn (operands_in x) k → HasValue d nodes word s k (value k))
      → HasValue d nodes word s n (value_step d word s (map-Expr ℕ BitValue value x))
