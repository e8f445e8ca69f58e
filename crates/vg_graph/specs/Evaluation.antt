-- How the value of a node is found: its operator over constants, which are the values of its operands.
use Rattle.std.specs.Prelude.{◌≡◌, ℕ, List, [], ◌∷◌, Option, Some, None, slice_index_or}
use Rattle.vg_bits.specs.BitValue.{BitValue, IsBitValue}
use Rattle.vg_isa.specs.declared.isa.Parts.{Parts}
use Rattle.vg_isa.specs.declared.expr.Expr.{Expr}
use Rattle.vg_isa.specs.declared.expr.Expr.TheVariants as tree
use Rattle.vg_isa.specs.Typing.{width_of}
use Rattle.vg_isa.specs.Value.{Reads, value_of}
use Rattle.vg_graph.specs.declared.operands.Operands.{Operands}
use Rattle.vg_graph.specs.declared.operands.Operands.TheVariants.{Zero, One, Two, Three}
use Rattle.vg_graph.specs.declared.operator.Op.{Op}
use Rattle.vg_graph.specs.declared.operator.Op.TheVariants as op
use Rattle.vg_graph.specs.declared.node.Node.{Node}
use Rattle.vg_graph.specs.Tree.{IsOperand, IsTree}

-- the value that is kept for a node
abbrev pub value_in : List BitValue → ℕ → BitValue
value_in values n = slice_index_or values n (record { width = 1; number = 0 })

-- the constant of that value
abbrev pub constant_at : List BitValue → ℕ → Expr
constant_at values n = tree.Const (value_in values n)

-- an operator without operands as a tree; None where it takes some
abbrev pub leaf_over : Op → Option Expr
leaf_over (op.Const b) = Some (tree.Const b)
leaf_over (op.Field f) = Some (tree.Field f)
leaf_over op.Pc = Some tree.Pc
leaf_over (op.Reg r) = Some (tree.Reg r None)
leaf_over _ = None

-- an operator over a tree; None where it takes another number of operands
abbrev pub one_over : Op → Expr → Option Expr
one_over (op.Reg r) a = Some (tree.Reg r (Some a))
one_over (op.Mem bytes) a = Some (tree.Mem a bytes)
one_over (op.Unary o) a = Some (tree.Unary o a)
one_over (op.Cast o width) a = Some (tree.Cast o width a)
one_over (op.Slice high low) a = Some (tree.Slice a high low)
one_over _ a = None

-- an operator over two trees; None where it takes another number of operands
abbrev pub two_over : Op → Expr → Expr → Option Expr
two_over (op.Binary o) a b = Some (tree.Binary o a b)
two_over op.Join a b = Some (tree.Join a b)
two_over _ a b = None

-- an operator over three trees; None where it takes another number of operands
abbrev pub three_over : Op → Expr → Expr → Expr → Option Expr
three_over op.If c a b = Some (tree.If c a b)
three_over _ c a b = None

-- the operator of a node over trees at its operands; None where it takes another number of operands
abbrev pub tree_over : (ℕ → Expr) → Node → Option Expr
tree_over at node = operator_over at node.op node.args
  where
    operator_over : (ℕ → Expr) → Op → Operands → Option Expr
    operator_over at o Zero = leaf_over o
    operator_over at o (One a) = one_over o (at a)
    operator_over at o (Two a b) = two_over o (at a) (at b)
    operator_over at o (Three c a b) = three_over o (at c) (at a) (at b)

-- the values of these nodes are bit values
abbrev pub AreBitValues : List BitValue → List ℕ → Type 0
AreBitValues values [] = Unit {0}
AreBitValues values (n ∷ ns) = IsBitValue (value_in values n) × AreBitValues values ns

-- the value and the width of the tree at a node
pub record IsWorth (d : Parts) (nodes : List Node) (word : ℕ) (s : Reads) (n : ℕ) (b : BitValue) : Type 0 where
  pub value : (e : Expr) → IsTree nodes n e → b ≡ value_of d e word s
  pub width : (e : Expr) → IsTree nodes n e → b.width ≡ width_of d e

-- the values that are kept for the operands of a node are those of their trees
abbrev pub AreOperandsWorth : Parts → List Node → ℕ → Reads → List BitValue → ℕ → Type 0
AreOperandsWorth d nodes word s values n = (k : ℕ) → IsOperand nodes k n → IsWorth d nodes word s k (value_in values k)
