-- each operator keeps a value in its range
use Rattle.std.proofs.Common.{◌≡◌, ℕ, ◌+◌, ◌-◌, ◌*◌, ◌/◌, ◌%◌, ◌^◌, ◌<◌, ◌≤◌, ℤ, pos, negsuc, Bool, true, false, cond, arith, ap}
use Rattle.std.proofs.lemmas.Nat.{pow_pos, mod_below, and_le_l, or_lt, xor_lt, shr_le}
use Rattle.std.proofs.Math.Nat.{div-le_self, mod-le}
use Rattle.vg_bits.specs.BitValue.{BitValue, IsBitValue, wrapped, add, sub, mul, neg, mul_long, long_product, udiv, unsigned_quotient, urem, unsigned_remainder, sdiv, signed_quotient, srem, signed_remainder, and, or, xor, not, shl, shifted_left, shr, shifted_right, sar, signed_shifted_right, extend, sign_extend, cut, join, slice}
use Rattle.vg_bits.proofs.Modular.{fits_wider, joined_below}
use Rattle.vg_bits.proofs.SignedValue.{product_fits}

-- a remainder modulo 2 ^ n has n bits
below_pow : (x n : ℕ) → x % 2 ^ n < 2 ^ n
below_pow x n = mod_below x (2 ^ n) (pow_pos n)

-- n ones have n bits
ones_below : (n : ℕ) → 2 ^ n - 1 < 2 ^ n
ones_below n = let p : 0 < 2 ^ n = pow_pos n in omega arith

-- a choice of two numbers below m
either_below : (c : Bool) (x y m : ℕ) → x < m → y < m → cond c x y < m
either_below true x y m p q = p
either_below false x y m p q = q

-- a wrapped number has n bits
pub wrapped_below : (n : ℕ) (z : ℤ) → wrapped n z < 2 ^ n
wrapped_below n (pos m) = below_pow m n
wrapped_below n (negsuc k) = let p : 0 < 2 ^ n = pow_pos n in omega arith

-- a sum is in range
pub IsBitValue-add : (a b : BitValue) → IsBitValue a → IsBitValue (add a b)
IsBitValue-add a b h = record { wide = h.wide; narrow = h.narrow; below = below_pow (a.number + b.number) a.width }

-- a difference is in range
pub IsBitValue-sub : (a b : BitValue) → IsBitValue a → IsBitValue (sub a b)
IsBitValue-sub a b h =
    record { wide = h.wide; narrow = h.narrow; below = below_pow (2 ^ a.width + a.number - b.number) a.width }

-- a product is in range
pub IsBitValue-mul : (a b : BitValue) → IsBitValue a → IsBitValue (mul a b)
IsBitValue-mul a b h = record { wide = h.wide; narrow = h.narrow; below = below_pow (a.number * b.number) a.width }

-- a negation is in range
pub IsBitValue-neg : (a : BitValue) → IsBitValue a → IsBitValue (neg a)
IsBitValue-neg a h = record { wide = h.wide; narrow = h.narrow; below = below_pow (2 ^ a.width - a.number) a.width }

-- the other number, below 2 to the first one's width
below_same : (a b : BitValue) → a.width ≡ b.width → IsBitValue b → b.number < 2 ^ a.width
below_same a b e h =
    let p : 2 ^ a.width ≡ 2 ^ b.width = ap (λ (k : ℕ). 2 ^ k) e in
    let q : b.number < 2 ^ b.width = h.below in omega arith

-- its number
long_product_below : (a b : BitValue) (signed : Bool) → IsBitValue a → IsBitValue b → a.width ≡ b.width → long_product a b signed < 2 ^ (2 * a.width)
unfolding long_product
long_product_below a b signed h k e =
    either_below signed _ _ _ (wrapped_below (2 * a.width) _) (product_fits a.width a.number b.number h.below (below_same a b e k))

-- a long product is in range
pub IsBitValue-mul_long : (a b : BitValue) (signed : Bool) → IsBitValue a → IsBitValue b → a.width ≡ b.width → a.width ≤ 64 → IsBitValue (mul_long a b signed)
IsBitValue-mul_long a b signed h k e le =
    let wide : 0 < a.width = h.wide in
    record { wide = omega arith; narrow = omega arith; below = long_product_below a b signed h k e }

-- its number
unsigned_quotient_below : (a b : BitValue) → IsBitValue a → unsigned_quotient a b < 2 ^ a.width
unfolding unsigned_quotient
unsigned_quotient_below a b h =
    let le : a.number / b.number ≤ a.number = div-le_self a.number b.number in
    let below : a.number < 2 ^ a.width = h.below in
    let quotient : a.number / b.number < 2 ^ a.width = omega arith in
    either_below _ _ _ _ (ones_below a.width) quotient

-- an unsigned quotient is in range
pub IsBitValue-udiv : (a b : BitValue) → IsBitValue a → IsBitValue (udiv a b)
IsBitValue-udiv a b h = record { wide = h.wide; narrow = h.narrow; below = unsigned_quotient_below a b h }

-- its number
unsigned_remainder_below : (a b : BitValue) → IsBitValue a → unsigned_remainder a b < 2 ^ a.width
unfolding unsigned_remainder
unsigned_remainder_below a b h =
    let le : a.number % b.number ≤ a.number = mod-le a.number b.number in
    let below : a.number < 2 ^ a.width = h.below in
    let rest : a.number % b.number < 2 ^ a.width = omega arith in
    either_below _ _ _ _ below rest

-- an unsigned remainder is in range
pub IsBitValue-urem : (a b : BitValue) → IsBitValue a → IsBitValue (urem a b)
IsBitValue-urem a b h = record { wide = h.wide; narrow = h.narrow; below = unsigned_remainder_below a b h }

-- its number
signed_quotient_below : (a b : BitValue) → signed_quotient a b < 2 ^ a.width
unfolding signed_quotient
signed_quotient_below a b = either_below _ _ _ _ (ones_below a.width) (wrapped_below a.width _)

-- a signed quotient is in range
pub IsBitValue-sdiv : (a b : BitValue) → IsBitValue a → IsBitValue (sdiv a b)
IsBitValue-sdiv a b h = record { wide = h.wide; narrow = h.narrow; below = signed_quotient_below a b }

-- its number
signed_remainder_below : (a b : BitValue) → IsBitValue a → signed_remainder a b < 2 ^ a.width
unfolding signed_remainder
signed_remainder_below a b h = either_below _ _ _ _ h.below (wrapped_below a.width _)

-- a signed remainder is in range
pub IsBitValue-srem : (a b : BitValue) → IsBitValue a → IsBitValue (srem a b)
IsBitValue-srem a b h = record { wide = h.wide; narrow = h.narrow; below = signed_remainder_below a b h }

-- the bits set in both is in range
pub IsBitValue-and : (a b : BitValue) → IsBitValue a → IsBitValue (and a b)
IsBitValue-and a b h =
    let below : a.number < 2 ^ a.width = h.below in
    record { wide = h.wide; narrow = h.narrow; below = omega (arith, and_le_l a.number b.number) }

-- the bits set in one or both is in range
pub IsBitValue-or : (a b : BitValue) → IsBitValue a → IsBitValue b → a.width ≡ b.width → IsBitValue (or a b)
IsBitValue-or a b h k e =
    record { wide = h.wide; narrow = h.narrow; below = or_lt a.width a.number b.number h.below (below_same a b e k) }

-- the bits set in one alone is in range
pub IsBitValue-xor : (a b : BitValue) → IsBitValue a → IsBitValue b → a.width ≡ b.width → IsBitValue (xor a b)
IsBitValue-xor a b h k e =
    record { wide = h.wide; narrow = h.narrow; below = xor_lt a.width a.number b.number h.below (below_same a b e k) }

-- a complement is in range
pub IsBitValue-not : (a : BitValue) → IsBitValue a → IsBitValue (not a)
IsBitValue-not a h =
    let p : 0 < 2 ^ a.width = pow_pos a.width in
    record { wide = h.wide; narrow = h.narrow; below = omega arith }

-- its number
shifted_left_below : (a b : BitValue) → shifted_left a b < 2 ^ a.width
unfolding shifted_left
shifted_left_below a b = either_below _ _ _ _ (below_pow _ a.width) (pow_pos a.width)

-- a shift to the left is in range
pub IsBitValue-shl : (a b : BitValue) → IsBitValue a → IsBitValue (shl a b)
IsBitValue-shl a b h = record { wide = h.wide; narrow = h.narrow; below = shifted_left_below a b }

-- its number
shifted_right_below : (a b : BitValue) → IsBitValue a → shifted_right a b < 2 ^ a.width
unfolding shifted_right
shifted_right_below a b h =
    let le : a.number / 2 ^ b.number ≤ a.number = shr_le a.number b.number in
    let below : a.number < 2 ^ a.width = h.below in
    let shifted : a.number / 2 ^ b.number < 2 ^ a.width = omega arith in
    either_below _ _ _ _ shifted (pow_pos a.width)

-- a shift to the right is in range
pub IsBitValue-shr : (a b : BitValue) → IsBitValue a → IsBitValue (shr a b)
IsBitValue-shr a b h = record { wide = h.wide; narrow = h.narrow; below = shifted_right_below a b h }

-- its number
signed_shifted_right_below : (a b : BitValue) → signed_shifted_right a b < 2 ^ a.width
unfolding signed_shifted_right
signed_shifted_right_below a b =
    either_below _ _ _ _ (wrapped_below a.width _) (either_below _ _ _ _ (ones_below a.width) (pow_pos a.width))

-- a signed shift to the right is in range
pub IsBitValue-sar : (a b : BitValue) → IsBitValue a → IsBitValue (sar a b)
IsBitValue-sar a b h = record { wide = h.wide; narrow = h.narrow; below = signed_shifted_right_below a b }

-- an extension by zeros is in range
pub IsBitValue-extend : (a : BitValue) (w : ℕ) → IsBitValue a → a.width ≤ w → w ≤ 128 → IsBitValue (extend a w)
IsBitValue-extend a w h le most =
    let wide : 0 < a.width = h.wide in
    record { wide = omega arith; narrow = most; below = fits_wider a.number a.width w h.below le }

-- an extension by the sign is in range
pub IsBitValue-sign_extend : (a : BitValue) (w : ℕ) → 0 < w → w ≤ 128 → IsBitValue (sign_extend a w)
IsBitValue-sign_extend a w least most = record { wide = least; narrow = most; below = wrapped_below w _ }

-- the low bits is in range
pub IsBitValue-cut : (a : BitValue) (w : ℕ) → 0 < w → w ≤ 128 → IsBitValue (cut a w)
IsBitValue-cut a w least most = record { wide = least; narrow = most; below = below_pow a.number w }

-- one value above another is in range
pub IsBitValue-join : (a b : BitValue) → IsBitValue a → IsBitValue b → a.width + b.width ≤ 128 → IsBitValue (join a b)
IsBitValue-join a b h k most =
    let wide : 0 < a.width = h.wide in
    record { wide = omega arith; narrow = most; below = joined_below a.width b.width a.number b.number h.below k.below }

-- a part is in range
pub IsBitValue-slice : (a : BitValue) (hi lo : ℕ) → IsBitValue a → lo ≤ hi → hi < a.width → IsBitValue (slice a hi lo)
IsBitValue-slice a hi lo h order inside =
    let narrow : a.width ≤ 128 = h.narrow in
    record { wide = omega arith; narrow = omega arith; below = below_pow (a.number / 2 ^ lo) (hi + 1 - lo) }
