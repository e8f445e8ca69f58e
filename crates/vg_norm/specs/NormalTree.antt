-- The normal form of a tree, as a fold.
use Rattle.std.specs.Prelude.{ℕ, zero, suc, ◌+◌, Bool, true, false, nat_eq, nat_le, if◌then◌else◌}
use base.Stored.{Gv, gnil, gnum, gcons}
use Rattle.vg_isa.specs.declared.isa.Parts.{Parts}
use Rattle.vg_isa.specs.declared.expr.Expr.{Expr, fold-Expr, roll-Expr}
use Rattle.vg_isa.specs.declared.expr.Expr.TheOpen.{Expr-F}
use Rattle.vg_isa.specs.contracts.expr.Expr as expr_type
use Rattle.vg_isa.specs.declared.operator.BinOp.{BinOp}
use Rattle.vg_isa.specs.declared.operator.CastOp.{CastOp}
use Rattle.vg_isa.specs.declared.operator.CastOp.TheVariants.{Cut}
use Rattle.vg_isa.specs.Same.{same_numbers}
use Rattle.vg_isa.specs.Typing.{width_of}
use Rattle.vg_graph.specs.Alike.{commutes}

-- The logic gives each value of a type of the code a tree of numbers, and different values different ones. These are
-- in order: what is empty, then numbers by their size, then pairs by their first parts, and by their second ones.
unfoldable pub are_in_order : Gv → Gv → Bool
are_in_order gnil _ = true
are_in_order (gnum m) gnil = false
are_in_order (gnum m) (gnum n) = nat_le m n
are_in_order (gnum m) (gcons c d) = true
are_in_order (gcons a b) gnil = false
are_in_order (gcons a b) (gnum n) = false
are_in_order (gcons a b) (gcons c d) = if same_numbers a c then are_in_order b d else are_in_order a c

-- The order of the operands of an operator that commutes: that of their trees of numbers.
abbrev pub is_first : Expr → Expr → Bool
is_first e f = are_in_order (expr_type.the_row.coded.code e) (expr_type.the_row.coded.code f)

-- the operator over two operands in their order
abbrev pub in_order : BinOp → Expr → Expr → Expr
in_order op a b = if is_first a b then roll-Expr (Expr-F.Binary op a b) else roll-Expr (Expr-F.Binary op b a)

-- the operator over two operands, in their order where it commutes
abbrev pub binary_over : BinOp → Expr → Expr → Expr
binary_over op a b = if commutes op then in_order op a b else roll-Expr (Expr-F.Binary op a b)

-- a cast that stands only where it changes the width
abbrev pub cast_over : Parts → CastOp → ℕ → Expr → Expr
cast_over d op width a = if nat_eq width (width_of d a) then a else roll-Expr (Expr-F.Cast op width a)

-- a slice, where it stands from bit 0 a cast
abbrev pub slice_over : Parts → Expr → ℕ → ℕ → Expr
slice_over d a high zero = cast_over d Cut (high + 1) a
slice_over d a high (suc low) = roll-Expr (Expr-F.Slice a high (suc low))

-- the normal form of one level over normal forms
abbrev pub normal_step : Parts → Expr-F Expr → Expr
normal_step d (Expr-F.Binary op a b) = binary_over op a b
normal_step d (Expr-F.Cast op width a) = cast_over d op width a
normal_step d (Expr-F.Slice a high low) = slice_over d a high low
normal_step d x = roll-Expr x

-- The normal form of a tree: no cast that leaves its operand as it is, no slice from bit 0, and the operands of an
-- operator that commutes in their order.
abbrev pub normal_tree : Parts → Expr → Expr
normal_tree d e = fold-Expr Expr (normal_step d) e
