-- What the instructions make of numbers: two-operand instructions, comparisons and casts. A value of an integer type of n
-- bits is a number below 2 ^ n, and an address one below 2 to the width of addresses.
use Rattle.std.specs.Prelude.{ℕ, ◌-◌, ◌%◌, ◌^◌, Bool, not, ◌&&◌, nat_eq, nat_le, if◌then◌else◌}
use Rattle.vg_bits.specs.BitValue.{BitValue, bit_value}
use Rattle.vg_bits.specs.BitValue as bits
use Rattle.vg_ir.specs.declared.operator.BinaryOperator.{BinaryOperator}
use Rattle.vg_ir.specs.declared.operator.BinaryOperator.TheVariants as binary
use Rattle.vg_ir.specs.declared.operator.Predicate.{Predicate}
use Rattle.vg_ir.specs.declared.operator.Predicate.TheVariants as predicate
use Rattle.vg_ir.specs.declared.operator.CastOperator.{CastOperator}
use Rattle.vg_ir.specs.declared.operator.CastOperator.TheVariants as cast
use Rattle.vg_ir.specs.Answer.{Answer, Known, Wrong, UnsignedByZero, SignedByZero, SignedOverflow, ShiftTooFar}

-- undefined where the divisor is 0
abbrev pub unsigned_divided : BitValue → ℕ → Answer ℕ
unsigned_divided b quotient = if nat_eq b.number 0 then Wrong UnsignedByZero else Known quotient

-- the least value by -1
abbrev pub overflows : BitValue → BitValue → Bool
overflows a b = nat_eq a.number (2 ^ (a.width - 1)) && nat_eq b.number (2 ^ b.width - 1)

-- undefined where the divisor is 0, and for the least value by -1
abbrev pub signed_divided : BitValue → BitValue → ℕ → Answer ℕ
signed_divided a b quotient =
    if nat_eq b.number 0
    then Wrong SignedByZero
    else (if overflows a b then Wrong SignedOverflow else Known quotient)

-- undefined where the amount is the width or more
abbrev pub shifted : BitValue → BitValue → ℕ → Answer ℕ
shifted a b value = if nat_le a.width b.number then Wrong ShiftTooFar else Known value

-- of two values of one width
abbrev pub binary_value : BinaryOperator → BitValue → BitValue → Answer ℕ
binary_value binary.Add a b = Known (bits.add a b).number
binary_value binary.Sub a b = Known (bits.sub a b).number
binary_value binary.Mul a b = Known (bits.mul a b).number
binary_value binary.Udiv a b = unsigned_divided b (bits.udiv a b).number
binary_value binary.Sdiv a b = signed_divided a b (bits.sdiv a b).number
binary_value binary.Urem a b = unsigned_divided b (bits.urem a b).number
binary_value binary.Srem a b = signed_divided a b (bits.srem a b).number
binary_value binary.Shl a b = shifted a b (bits.shl a b).number
binary_value binary.Lshr a b = shifted a b (bits.shr a b).number
binary_value binary.Ashr a b = shifted a b (bits.sar a b).number
binary_value binary.And a b = Known (bits.and a b).number
binary_value binary.Or a b = Known (bits.or a b).number
binary_value binary.Xor a b = Known (bits.xor a b).number

-- of two values of one width
abbrev pub compared : Predicate → BitValue → BitValue → Bool
compared predicate.Eq a b = bits.eq a b
compared predicate.Ne a b = not (bits.eq a b)
compared predicate.Ugt a b = bits.lt b a
compared predicate.Uge a b = not (bits.lt a b)
compared predicate.Ult a b = bits.lt a b
compared predicate.Ule a b = not (bits.lt b a)
compared predicate.Sgt a b = bits.slt b a
compared predicate.Sge a b = not (bits.slt a b)
compared predicate.Slt a b = bits.slt a b
compared predicate.Sle a b = not (bits.slt b a)

-- an i1
abbrev pub bit_of : Bool → ℕ
bit_of b = if b then 1 else 0

-- at another width: with the sign, or cut or extended with zeros
abbrev pub cast_value : CastOperator → BitValue → ℕ → ℕ
cast_value cast.Zext a width = a.number % 2 ^ width
cast_value cast.Sext a width = (bits.sign_extend a width).number
cast_value cast.Trunc a width = (bits.cut a width).number
cast_value cast.PtrToInt a width = a.number % 2 ^ width
cast_value cast.IntToPtr a width = a.number % 2 ^ width
cast_value cast.Bitcast a width = a.number % 2 ^ width
