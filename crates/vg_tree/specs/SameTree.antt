-- Operators by their numbers.
use Rattle.std.specs.Prelude.{ℕ, true, false}
use Rattle.vg_isa.specs.declared.operator.BinOp.{BinOp}
use Rattle.vg_isa.specs.declared.operator.BinOp.TheVariants as binop

-- the place of an operator in the list of all
abbrev pub binary_number : BinOp → ℕ
binary_number binop.Add = 0
binary_number binop.Sub = 1
binary_number binop.Mul = 2
binary_number (binop.MulLong false) = 3
binary_number (binop.MulLong true) = 4
binary_number binop.Udiv = 5
binary_number binop.Sdiv = 6
binary_number binop.Urem = 7
binary_number binop.Srem = 8
binary_number binop.And = 9
binary_number binop.Or = 10
binary_number binop.Xor = 11
binary_number binop.Shl = 12
binary_number binop.Shr = 13
binary_number binop.Sar = 14
binary_number binop.Eq = 15
binary_number binop.Lt = 16
binary_number binop.Slt = 17
