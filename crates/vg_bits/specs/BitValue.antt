-- Bit values, and what each operator makes of them, as formulas on whole numbers.
-- A bit value of width n is a number below 2 ^ n. It is read as that number, or as the signed number (two's complement) that `signed_value` gives.
-- The operators of two bit values of one width take the width of the first.
use Rattle.std.specs.Prelude.{ℕ, ◌+◌, ◌-◌, ◌*◌, ◌/◌, ◌%◌, ◌^◌, ◌<◌, ◌≤◌, ℤ, pos, ◌-ℤ◌, ◌*ℤ◌, Bool, if◌then◌else◌, ◌==◌, nat_lt, bit_and, bit_or, bit_xor, int_div, int_rem, int_lt, unsigned_abs}
use Rattle.std.specs.Int.{int_div_euclid, int_rem_euclid}

-- a width, 1 to 128, and a number below 2 ^ width
pub record BitValue : Type 0 where
  pub width : ℕ
  pub number : ℕ

-- the value of this width and number
abbrev pub bit_value : ℕ → ℕ → BitValue
bit_value width number = record { width = width; number = number }

-- what every value of the program keeps
pub record IsBitValue (v : BitValue) : Type 0 where
  pub wide : 0 < v.width
  pub narrow : v.width ≤ 128
  pub below : v.number < 2 ^ v.width

-- ---- readings

-- the signed number: from the half of 2 ^ width on, 2 ^ width less
unfoldable pub signed_value : BitValue → ℤ
signed_value v =
    if nat_lt v.number (2 ^ (v.width - 1)) then pos v.number else (pos v.number -ℤ pos (2 ^ v.width))

-- the number below 2 ^ width that differs from z by a multiple of 2 ^ width
abbrev pub wrapped : ℕ → ℤ → ℕ
wrapped width z = unsigned_abs (int_rem_euclid z (pos (2 ^ width)))

-- the number of width ones
abbrev pub all_ones : ℕ → ℕ
all_ones width = 2 ^ width - 1

-- ---- sums and products, which wrap

-- the sum, modulo 2 ^ width
abbrev pub add : BitValue → BitValue → BitValue
add a b = record { width = a.width; number = (a.number + b.number) % 2 ^ a.width }

-- the difference, modulo 2 ^ width
abbrev pub sub : BitValue → BitValue → BitValue
sub a b = record { width = a.width; number = (2 ^ a.width + a.number - b.number) % 2 ^ a.width }

-- the product, modulo 2 ^ width
abbrev pub mul : BitValue → BitValue → BitValue
mul a b = record { width = a.width; number = (a.number * b.number) % 2 ^ a.width }

-- zero minus the number, modulo 2 ^ width
abbrev pub neg : BitValue → BitValue
neg a = record { width = a.width; number = (2 ^ a.width - a.number) % 2 ^ a.width }

-- the whole product of two numbers of one width, or of the signed numbers, in twice as many bits
unfoldable pub long_product : BitValue → BitValue → Bool → ℕ
long_product a b signed =
    if signed then wrapped (2 * a.width) (signed_value a *ℤ signed_value b) else a.number * b.number

-- the product at double width, of the signed numbers where the flag is set
abbrev pub mul_long : BitValue → BitValue → Bool → BitValue
mul_long a b signed = record { width = 2 * a.width; number = long_product a b signed }

-- ---- division: by 0 the quotient is all ones and the remainder is the dividend

-- the quotient of the numbers, rounded down
unfoldable pub unsigned_quotient : BitValue → BitValue → ℕ
unsigned_quotient a b = if b.number == 0 then all_ones a.width else (a.number / b.number)

-- the quotient of the unsigned numbers
abbrev pub udiv : BitValue → BitValue → BitValue
udiv a b = record { width = a.width; number = unsigned_quotient a b }

-- the remainder of the numbers
unfoldable pub unsigned_remainder : BitValue → BitValue → ℕ
unsigned_remainder a b = if b.number == 0 then a.number else (a.number % b.number)

-- the remainder of the unsigned numbers
abbrev pub urem : BitValue → BitValue → BitValue
urem a b = record { width = a.width; number = unsigned_remainder a b }

-- the quotient of the signed numbers, towards zero, wrapped
unfoldable pub signed_quotient : BitValue → BitValue → ℕ
signed_quotient a b =
    if b.number == 0 then all_ones a.width else wrapped a.width (int_div (signed_value a) (signed_value b))

-- of the signed numbers, towards zero, wrapped: the least number divided by -1 is itself, with remainder 0
abbrev pub sdiv : BitValue → BitValue → BitValue
sdiv a b = record { width = a.width; number = signed_quotient a b }

-- the remainder has the sign of the dividend
unfoldable pub signed_remainder : BitValue → BitValue → ℕ
signed_remainder a b =
    if b.number == 0 then a.number else wrapped a.width (int_rem (signed_value a) (signed_value b))

-- the remainder of the signed numbers, with the sign of the dividend
abbrev pub srem : BitValue → BitValue → BitValue
srem a b = record { width = a.width; number = signed_remainder a b }

-- ---- bit by bit

-- the bits that are set in both
abbrev pub and : BitValue → BitValue → BitValue
and a b = record { width = a.width; number = bit_and a.number b.number }

-- the bits that are set in one or both
abbrev pub or : BitValue → BitValue → BitValue
or a b = record { width = a.width; number = bit_or a.number b.number }

-- the bits that are set in one alone
abbrev pub xor : BitValue → BitValue → BitValue
xor a b = record { width = a.width; number = bit_xor a.number b.number }

-- the bits that are not set
abbrev pub not : BitValue → BitValue
not a = record { width = a.width; number = all_ones a.width - a.number }

-- ---- shifts, by the number of b, which may have any width

-- the number times 2 ^ b, modulo 2 ^ width
unfoldable pub shifted_left : BitValue → BitValue → ℕ
shifted_left a b =
    if nat_lt b.number a.width then ((a.number * 2 ^ b.number) % 2 ^ a.width) else 0

-- to the left: 0 where b is the width or more
abbrev pub shl : BitValue → BitValue → BitValue
shl a b = record { width = a.width; number = shifted_left a b }

-- the number over 2 ^ b, rounded down
unfoldable pub shifted_right : BitValue → BitValue → ℕ
shifted_right a b = if nat_lt b.number a.width then (a.number / 2 ^ b.number) else 0

-- to the right: 0 where b is the width or more
abbrev pub shr : BitValue → BitValue → BitValue
shr a b = record { width = a.width; number = shifted_right a b }

-- as many bits as the width has, each of them the sign bit
abbrev pub sign_bits : BitValue → ℕ
sign_bits a = if int_lt (signed_value a) (pos 0) then all_ones a.width else 0

-- the signed number over 2 ^ b, rounded down, wrapped
unfoldable pub signed_shifted_right : BitValue → BitValue → ℕ
signed_shifted_right a b =
    if nat_lt b.number a.width then wrapped a.width (int_div_euclid (signed_value a) (pos (2 ^ b.number))) else sign_bits a

-- to the right, of the signed number, rounded down: all sign bits where b is the width or more
abbrev pub sar : BitValue → BitValue → BitValue
sar a b = record { width = a.width; number = signed_shifted_right a b }

-- ---- tests

-- of the numbers
abbrev pub eq : BitValue → BitValue → Bool
eq a b = a.number == b.number

-- of the unsigned numbers
abbrev pub lt : BitValue → BitValue → Bool
lt a b = nat_lt a.number b.number

-- of the signed numbers
abbrev pub slt : BitValue → BitValue → Bool
slt a b = int_lt (signed_value a) (signed_value b)

-- ---- other widths

-- the same number at a greater width
abbrev pub extend : BitValue → ℕ → BitValue
extend a width = record { width = width; number = a.number }

-- the same signed number at a greater width
abbrev pub sign_extend : BitValue → ℕ → BitValue
sign_extend a width = record { width = width; number = wrapped width (signed_value a) }

-- the low bits
abbrev pub cut : BitValue → ℕ → BitValue
cut a width = record { width = width; number = a.number % 2 ^ width }

-- the bits of a above those of b
abbrev pub join : BitValue → BitValue → BitValue
join a b = record { width = a.width + b.width; number = a.number * 2 ^ b.width + b.number }

-- the bits from hi down to lo, both of them in it, where bit 0 is the lowest
abbrev pub slice : BitValue → ℕ → ℕ → BitValue
slice a hi lo = record { width = hi + 1 - lo; number = a.number / 2 ^ lo % 2 ^ (hi + 1 - lo) }
