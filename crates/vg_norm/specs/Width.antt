-- The width of a node by the widths of its operands.
use Rattle.std.specs.Prelude.{ℕ, true, false, List, slice_index_or, Some, None}
use Rattle.vg_isa.specs.declared.isa.Parts.{Parts}
use Rattle.vg_isa.specs.declared.expr.Expr.TheOpen.{Expr-F}
use Rattle.vg_isa.specs.Typing.{Typing, typing_step}
use Rattle.vg_graph.specs.declared.operands.Operands.{Operands}
use Rattle.vg_graph.specs.declared.operands.Operands.TheVariants.{Zero, One, Two, Three}
use Rattle.vg_graph.specs.declared.operator.Op.{Op}
use Rattle.vg_graph.specs.declared.operator.Op.TheVariants as op

-- a typed operand of this width
abbrev pub typed_as : ℕ → Typing
typed_as width = record { width = width; is_typed = true }

-- an operator with another number of operands than it takes
abbrev pub untyped : Typing
untyped = record { width = 0; is_typed = false }

-- the typing of an operator without operands
abbrev pub leaf_typing : Parts → Op → Typing
leaf_typing d (op.Const b) = typing_step d (Expr-F.Const b)
leaf_typing d (op.Field f) = typing_step d (Expr-F.Field f)
leaf_typing d op.Pc = typing_step d Expr-F.Pc
leaf_typing d (op.Reg r) = typing_step d (Expr-F.Reg r None)
leaf_typing d _ = untyped

-- of one over one operand
abbrev pub one_typing : Parts → Op → ℕ → Typing
one_typing d (op.Reg r) a = typing_step d (Expr-F.Reg r (Some (typed_as a)))
one_typing d (op.Mem bytes) a = typing_step d (Expr-F.Mem (typed_as a) bytes)
one_typing d (op.Unary o) a = typing_step d (Expr-F.Unary o (typed_as a))
one_typing d (op.Cast o width) a = typing_step d (Expr-F.Cast o width (typed_as a))
one_typing d (op.Slice high low) a = typing_step d (Expr-F.Slice (typed_as a) high low)
one_typing d _ a = untyped

-- of one over two operands
abbrev pub two_typing : Parts → Op → ℕ → ℕ → Typing
two_typing d (op.Binary o) a b = typing_step d (Expr-F.Binary o (typed_as a) (typed_as b))
two_typing d op.Join a b = typing_step d (Expr-F.Join (typed_as a) (typed_as b))
two_typing d _ a b = untyped

-- of one over three operands
abbrev pub three_typing : Parts → Op → ℕ → ℕ → ℕ → Typing
three_typing d op.If c a b = typing_step d (Expr-F.If (typed_as c) (typed_as a) (typed_as b))
three_typing d _ c a b = untyped

-- the typing of a node over nodes of these widths
abbrev pub node_typing : Parts → List ℕ → Op → Operands → Typing
node_typing d widths o Zero = leaf_typing d o
node_typing d widths o (One a) = one_typing d o (slice_index_or widths a 0)
node_typing d widths o (Two a b) = two_typing d o (slice_index_or widths a 0) (slice_index_or widths b 0)
node_typing d widths o (Three c a b) = three_typing d o (slice_index_or widths c 0) (slice_index_or widths a 0) (slice_index_or widths b 0)
