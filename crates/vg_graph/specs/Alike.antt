-- Trees that are equal up to two freedoms: the operands of `+ & | ^ * =` may stand in either order, and a cast that
-- changes neither width nor value may stand or lack.
use Rattle.std.specs.Prelude.{◌≡◌, ℕ, ◌+◌, Bool, true, false, IsTrue}
use Rattle.vg_isa.specs.declared.isa.Parts.{Parts}
use Rattle.vg_isa.specs.declared.expr.Expr.{Expr, map-Expr, roll-Expr}
use Rattle.vg_isa.specs.declared.expr.Expr.TheOpen.{Expr-F}
use Rattle.vg_isa.specs.declared.operator.BinOp.{BinOp}
use Rattle.vg_isa.specs.declared.operator.BinOp.TheVariants as binop
use Rattle.vg_isa.specs.declared.operator.CastOp.{CastOp}
use Rattle.vg_isa.specs.declared.operator.CastOp.TheVariants.{Cut}
use Rattle.vg_isa.specs.Typing.{is_typed, width_of}

-- the operands of this operator may stand in either order
abbrev pub commutes : BinOp → Bool
commutes binop.Add = true
commutes binop.And = true
commutes binop.Or = true
commutes binop.Xor = true
commutes binop.Mul = true
commutes binop.Eq = true
commutes _ = false

-- Two trees are equal up to the two freedoms. This is the least equivalence that has the freedoms, and that goes from
-- operands to the operator over them. A cast to the width of its operand changes neither width nor value. A slice from
-- bit 0 is the cast that cuts to as many bits, so one of all bits may stand or lack.
pub data Alike (d : Parts) : Expr → Expr → Type 0 where
  same : (e : Expr) → Alike d e e
  turned : (e f : Expr) → Alike d e f → Alike d f e
  chained : (e f g : Expr) → Alike d e f → Alike d f g → Alike d e g
  -- one operator over operands that are equal up to the freedoms, place by place
  within :
      (x : Expr-F ℕ) (a b : ℕ → Expr)
      → ((k : ℕ) → Alike d (a k) (b k))
      → Alike d (roll-Expr (map-Expr ℕ Expr a x)) (roll-Expr (map-Expr ℕ Expr b x))
  -- the first freedom
  swapped :
      (op : BinOp) (a b : Expr)
      → IsTrue (commutes op)
      → IsTrue (is_typed d (roll-Expr (Expr-F.Binary op a b)))
      → Alike d (roll-Expr (Expr-F.Binary op a b)) (roll-Expr (Expr-F.Binary op b a))
  -- the second freedom: a cast to the width of its operand
  cast :
      (op : CastOp) (width : ℕ) (a : Expr)
      → width ≡ width_of d a
      → IsTrue (is_typed d (roll-Expr (Expr-F.Cast op width a)))
      → Alike d (roll-Expr (Expr-F.Cast op width a)) a
  -- a slice from bit 0 is a cast, which cuts
  slice :
      (a : Expr) (high : ℕ)
      → IsTrue (is_typed d (roll-Expr (Expr-F.Slice a high 0)))
      → IsTrue (is_typed d (roll-Expr (Expr-F.Cast Cut (high + 1) a)))
      → Alike d (roll-Expr (Expr-F.Slice a high 0)) (roll-Expr (Expr-F.Cast Cut (high + 1) a))
