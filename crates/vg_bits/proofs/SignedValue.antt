-- the signed number of a value of n bits, by its highest bit, and what the operators on signed numbers are in terms of absolute values
use Rattle.std.proofs.Common.{◌≡◌, ℕ, zero, suc, ◌+◌, ◌-◌, ◌*◌, ◌/◌, ◌%◌, ◌^◌, ◌<◌, ◌≤◌, ◌≢◌, inl, inr, ℤ, pos, negsuc, neg_ℤ, ◌-ℤ◌, ◌*ℤ◌, Bool, true, false, nat_lt, nat_le, arith, ap, sym, ◌∙◌, refl}
use Rattle.std.specs.Prelude.{int_lt, int_div, int_rem, unsigned_abs, ◌==◌}
use Rattle.std.specs.Int.{int_div_euclid}
use Rattle.std.proofs.lemmas.Nat.{shr_le, pow-add, pow_pos, mul-lt}
use Rattle.std.proofs.lemmas.Int.{ints}
use Rattle.std.proofs.lemmas.Bool.{lt-ltb, cases_lt}
use Rattle.std.proofs.lemmas.Bool.Decides.{nat_tests}
use Rattle.std.proofs.Math.Bool.{beq}
use Rattle.std.proofs.Math.Nat.{mod-eq_of_lt, mod_self, zero-mod, div-le_self, mod-le}
use Rattle.vg_bits.specs.BitValue.{bit_value, signed_value, wrapped, signed_quotient, signed_remainder, long_product}
use Rattle.vg_bits.proofs.Modular.{fits_wider}

-- below the half the signed number is the number
pub signed_value-low : (n a : ℕ) → a < 2 ^ (n - 1) → signed_value (bit_value n a) ≡ pos a
unfolding signed_value
signed_value-low n a h =
    let e : nat_lt a (2 ^ (n - 1)) ≡ true = lt-ltb _ _ h in rw e refl

-- from the half on it is 2 ^ n less
pub signed_value-high : (n a : ℕ) → 2 ^ (n - 1) ≤ a → a < 2 ^ n → signed_value (bit_value n a) ≡ negsuc (2 ^ n - suc a)
unfolding signed_value
signed_value-high n a h below =
    let e : nat_lt a (2 ^ (n - 1)) ≡ false = grind (arith, nat_tests) in
    let d : pos a -ℤ pos (2 ^ n) ≡ negsuc (2 ^ n - suc a) = omega (arith, ints) in
    rw e d

-- what is left of a negated number
pub wrapped-neg : (n m : ℕ) → m < 2 ^ n → wrapped n (neg_ℤ (pos m)) ≡ (2 ^ n + 0 - m) % 2 ^ n
wrapped-neg n zero h =
    let e : 2 ^ n + 0 - 0 ≡ 2 ^ n = omega arith in
    zero-mod (2 ^ n) ∙ sym (mod_self (2 ^ n)) ∙ ap (λ (k : ℕ). k % 2 ^ n) (sym e)
wrapped-neg n (suc k) h =
    let low : k < 2 ^ n = omega arith in
    let left : 2 ^ n - 1 - k % 2 ^ n ≡ 2 ^ n - 1 - k = ap (λ (j : ℕ). 2 ^ n - 1 - j) (mod-eq_of_lt low) in
    let e : 2 ^ n + 0 - suc k ≡ 2 ^ n - 1 - k = omega arith in
    let d : 2 ^ n - 1 - k < 2 ^ n = omega arith in
    left ∙ sym (mod-eq_of_lt d) ∙ ap (λ (j : ℕ). j % 2 ^ n) (sym e)

-- a natural number that fits stays
pub wrapped-pos : (n m : ℕ) → m < 2 ^ n → wrapped n (pos m) ≡ m
wrapped-pos n m h = mod-eq_of_lt h

-- -(k + 1)
pub wrapped-negsuc : (n k : ℕ) → k < 2 ^ n → wrapped n (negsuc k) ≡ 2 ^ n - 1 - k
wrapped-negsuc n k h = ap (λ (j : ℕ). 2 ^ n - 1 - j) (mod-eq_of_lt h)

-- a natural number is not below 0
int_lt-pos : (a : ℕ) → int_lt (pos a) (pos 0) ≡ false
int_lt-pos a = grind (arith, nat_tests)

-- quotient, remainder and product by the two signs, from the absolute values

-- a quotient of two numbers of one sign
pub wrapped-int_div-same : (n : ℕ) (x y : ℤ) → int_lt x (pos 0) ≡ int_lt y (pos 0) → unsigned_abs x / unsigned_abs y < 2 ^ n → wrapped n (int_div x y) ≡ unsigned_abs x / unsigned_abs y
wrapped-int_div-same n (pos a) (pos b) s h = wrapped-pos n (a / b) h
wrapped-int_div-same n (pos a) (negsuc b) s h = let e = int_lt-pos a in cc
wrapped-int_div-same n (negsuc a) (pos b) s h = let e = int_lt-pos b in cc
wrapped-int_div-same n (negsuc a) (negsuc b) s h = wrapped-pos n (suc a / suc b) h

-- a quotient of two numbers of different signs
pub wrapped-int_div-other : (n : ℕ) (x y : ℤ) → int_lt x (pos 0) ≢ int_lt y (pos 0) → unsigned_abs x / unsigned_abs y < 2 ^ n → wrapped n (int_div x y) ≡ (2 ^ n + 0 - unsigned_abs x / unsigned_abs y) % 2 ^ n
wrapped-int_div-other n (pos a) (pos b) s h = absurd (s (int_lt-pos a ∙ sym (int_lt-pos b)))
wrapped-int_div-other n (pos a) (negsuc b) s h = wrapped-neg n (a / suc b) h
wrapped-int_div-other n (negsuc a) (pos b) s h = wrapped-neg n (suc a / b) h
wrapped-int_div-other n (negsuc a) (negsuc b) s h = absurd (s refl)

-- a remainder of a number that is not negative
pub wrapped-int_rem-pos : (n : ℕ) (x y : ℤ) → int_lt x (pos 0) ≡ false → unsigned_abs x % unsigned_abs y < 2 ^ n → wrapped n (int_rem x y) ≡ unsigned_abs x % unsigned_abs y
wrapped-int_rem-pos n (pos a) y s h = wrapped-pos n (a % unsigned_abs y) h
wrapped-int_rem-pos n (negsuc a) y s h = cc

-- a remainder of a negative number
pub wrapped-int_rem-neg : (n : ℕ) (x y : ℤ) → int_lt x (pos 0) ≡ true → unsigned_abs x % unsigned_abs y < 2 ^ n → wrapped n (int_rem x y) ≡ (2 ^ n + 0 - unsigned_abs x % unsigned_abs y) % 2 ^ n
wrapped-int_rem-neg n (pos a) y s h = let e = int_lt-pos a in cc
wrapped-int_rem-neg n (negsuc a) y s h = wrapped-neg n (suc a % unsigned_abs y) h

-- a product of two numbers of one sign
pub wrapped-mul-same : (n : ℕ) (x y : ℤ) → int_lt x (pos 0) ≡ int_lt y (pos 0) → unsigned_abs x * unsigned_abs y < 2 ^ n → wrapped n (x *ℤ y) ≡ unsigned_abs x * unsigned_abs y
wrapped-mul-same n (pos a) (pos b) s h = wrapped-pos n (a * b) h
wrapped-mul-same n (pos a) (negsuc b) s h = let e = int_lt-pos a in cc
wrapped-mul-same n (negsuc a) (pos b) s h = let e = int_lt-pos b in cc
wrapped-mul-same n (negsuc a) (negsuc b) s h = wrapped-pos n (suc a * suc b) h

-- a product of two numbers of different signs
pub wrapped-mul-other : (n : ℕ) (x y : ℤ) → int_lt x (pos 0) ≢ int_lt y (pos 0) → unsigned_abs x * unsigned_abs y < 2 ^ n → wrapped n (x *ℤ y) ≡ (2 ^ n + 0 - unsigned_abs x * unsigned_abs y) % 2 ^ n
wrapped-mul-other n (pos a) (pos b) s h = absurd (s (int_lt-pos a ∙ sym (int_lt-pos b)))
wrapped-mul-other n (pos a) (negsuc b) s h = wrapped-neg n (a * suc b) h
wrapped-mul-other n (negsuc a) (pos b) s h = wrapped-neg n (suc a * b) h
wrapped-mul-other n (negsuc a) (negsuc b) s h = absurd (s refl)

-- ---- one value, by its highest bit

-- the sign is whether the number reaches the half
pub nat_le-top : (n a : ℕ) → a < 2 ^ n → nat_le (2 ^ (n - 1)) a ≡ int_lt (signed_value (bit_value n a)) (pos 0)
nat_le-top n a below =
    let low : a < 2 ^ (n - 1) → nat_le (2 ^ (n - 1)) a ≡ int_lt (signed_value (bit_value n a)) (pos 0) =
    λ (h : a < 2 ^ (n - 1)).
    let e : nat_le (2 ^ (n - 1)) a ≡ false = grind (arith, nat_tests) in
    e ∙ sym (int_lt-pos a) ∙ ap (λ (z : ℤ). int_lt z (pos 0)) (sym (signed_value-low n a h))
    in
    let high : 2 ^ (n - 1) ≤ a → nat_le (2 ^ (n - 1)) a ≡ int_lt (signed_value (bit_value n a)) (pos 0) =
    λ (h : 2 ^ (n - 1) ≤ a).
    let e : nat_le (2 ^ (n - 1)) a ≡ true = grind (arith, nat_tests) in
    e ∙ ap (λ (z : ℤ). int_lt z (pos 0)) (sym (signed_value-high n a h below))
    in
    elim (cases_lt a (2 ^ (n - 1))) [ inl h ↦ low h | inr h ↦ high h ]

-- the signed number where the sign is not set
pub signed_value-not_negative : (n a : ℕ) → a < 2 ^ n → int_lt (signed_value (bit_value n a)) (pos 0) ≡ false → signed_value (bit_value n a) ≡ pos a
signed_value-not_negative n a below s =
    let e : nat_le (2 ^ (n - 1)) a ≡ false = nat_le-top n a below ∙ s in
    let h : a < 2 ^ (n - 1) = grind (arith, nat_tests) in
    signed_value-low n a h

-- the signed number where the sign is set
pub signed_value-negative : (n a : ℕ) → a < 2 ^ n → int_lt (signed_value (bit_value n a)) (pos 0) ≡ true → signed_value (bit_value n a) ≡ negsuc (2 ^ n - suc a)
signed_value-negative n a below s =
    let e : nat_le (2 ^ (n - 1)) a ≡ true = nat_le-top n a below ∙ s in
    let h : 2 ^ (n - 1) ≤ a = grind (arith, nat_tests) in
    signed_value-high n a h below

-- the absolute value where the sign is not set
pub abs-not_negative : (n a : ℕ) → a < 2 ^ n → int_lt (signed_value (bit_value n a)) (pos 0) ≡ false → unsigned_abs (signed_value (bit_value n a)) ≡ a
abs-not_negative n a below s = ap unsigned_abs (signed_value-not_negative n a below s)

-- the absolute value where the sign is set
pub abs-negative : (n a : ℕ) → a < 2 ^ n → int_lt (signed_value (bit_value n a)) (pos 0) ≡ true → unsigned_abs (signed_value (bit_value n a)) ≡ (2 ^ n + 0 - a) % 2 ^ n
abs-negative n a below s =
    let e : nat_le (2 ^ (n - 1)) a ≡ true = nat_le-top n a below ∙ s in
    let h : 2 ^ (n - 1) ≤ a = grind (arith, nat_tests) in
    let half : 0 < 2 ^ (n - 1) = pow_pos (n - 1) in
    let fits : 2 ^ n + 0 - a < 2 ^ n = omega arith in
    let d : suc (2 ^ n - suc a) ≡ 2 ^ n + 0 - a = omega arith in
    ap unsigned_abs (signed_value-negative n a below s) ∙ d ∙ sym (mod-eq_of_lt fits)

-- only 0 has the absolute value 0
pub abs_nonzero : (n a r : ℕ) → a < 2 ^ n → r ≡ unsigned_abs (signed_value (bit_value n a)) → 0 < a → 0 < r
abs_nonzero n a r below er h =
    let low : a < 2 ^ (n - 1) → 0 < r =
    λ (l : a < 2 ^ (n - 1)).
    let e : r ≡ a = er ∙ ap unsigned_abs (signed_value-low n a l) in omega arith
    in
    let high : 2 ^ (n - 1) ≤ a → 0 < r =
    λ (l : 2 ^ (n - 1) ≤ a).
    let e : r ≡ suc (2 ^ n - suc a) = er ∙ ap unsigned_abs (signed_value-high n a l below) in omega arith
    in
    elim (cases_lt a (2 ^ (n - 1))) [ inl h ↦ low h | inr h ↦ high h ]

-- a shift to the right, rounded down
pub shifted-not_negative : (n a k : ℕ) → a < 2 ^ n → int_lt (signed_value (bit_value n a)) (pos 0) ≡ false → wrapped n (int_div_euclid (signed_value (bit_value n a)) (pos (2 ^ k))) ≡ a / 2 ^ k
shifted-not_negative n a k below s =
    let le : a / 2 ^ k ≤ a = shr_le a k in
    let fits : a / 2 ^ k < 2 ^ n = omega arith in
    ap (λ (z : ℤ). wrapped n (int_div_euclid z (pos (2 ^ k)))) (signed_value-not_negative n a below s) ∙ wrapped-pos n (a / 2 ^ k) fits

-- the same of a negative number
pub shifted-negative : (n a k : ℕ) → a < 2 ^ n → int_lt (signed_value (bit_value n a)) (pos 0) ≡ true → wrapped n (int_div_euclid (signed_value (bit_value n a)) (pos (2 ^ k))) ≡ 2 ^ n - 1 - (2 ^ n - 1 - a) / 2 ^ k
shifted-negative n a k below s =
    let e : 2 ^ n - suc a ≡ 2 ^ n - 1 - a = omega arith in
    let value : signed_value (bit_value n a) ≡ negsuc (2 ^ n - 1 - a) = signed_value-negative n a below s ∙ ap negsuc e in
    let le : (2 ^ n - 1 - a) / 2 ^ k ≤ 2 ^ n - 1 - a = shr_le (2 ^ n - 1 - a) k in
    let fits : (2 ^ n - 1 - a) / 2 ^ k < 2 ^ n = omega arith in
    ap (λ (z : ℤ). wrapped n (int_div_euclid z (pos (2 ^ k)))) value ∙ wrapped-negsuc n ((2 ^ n - 1 - a) / 2 ^ k) fits

-- more bits
pub extended-not_negative : (n w a : ℕ) → n ≤ w → a < 2 ^ n → int_lt (signed_value (bit_value n a)) (pos 0) ≡ false → wrapped w (signed_value (bit_value n a)) ≡ a
extended-not_negative n w a le below s =
    ap (wrapped w) (signed_value-not_negative n a below s) ∙ wrapped-pos w a (fits_wider a n w below le)

-- the same of a negative number
pub extended-negative : (n w a : ℕ) → n ≤ w → a < 2 ^ n → int_lt (signed_value (bit_value n a)) (pos 0) ≡ true → wrapped w (signed_value (bit_value n a)) ≡ 2 ^ w - 1 - (2 ^ n - 1 - a)
extended-negative n w a le below s =
    let e : 2 ^ n - suc a ≡ 2 ^ n - 1 - a = omega arith in
    let value : signed_value (bit_value n a) ≡ negsuc (2 ^ n - 1 - a) = signed_value-negative n a below s ∙ ap negsuc e in
    let low : 2 ^ n - 1 - a < 2 ^ n = omega arith in
    ap (wrapped w) value ∙ wrapped-negsuc w (2 ^ n - 1 - a) (fits_wider (2 ^ n - 1 - a) n w low le)

-- two flags that test as equal are equal
beq-same : (s t : Bool) → beq s t ≡ true → s ≡ t
beq-same true true h = refl
beq-same true false h = sym h
beq-same false true h = h
beq-same false false h = refl

-- two flags that test as different differ
beq-other : (s t : Bool) → beq s t ≡ false → s ≢ t
beq-other true true h e = cc
beq-other true false h e = cc
beq-other false true h e = cc
beq-other false false h e = cc

-- the order: of two signs that are equal by the numbers, and else by the sign
int_lt-both : (n a b : ℕ) → a < 2 ^ n → b < 2 ^ n → (s : Bool) → int_lt (signed_value (bit_value n a)) (pos 0) ≡ s → int_lt (signed_value (bit_value n b)) (pos 0) ≡ s → int_lt (signed_value (bit_value n a)) (signed_value (bit_value n b)) ≡ nat_lt a b
int_lt-both n a b p q true sa sb =
    let e : nat_lt (2 ^ n - suc b) (2 ^ n - suc a) ≡ nat_lt a b = grind (arith, nat_tests) in
    rw (signed_value-negative n a p sa, signed_value-negative n b q sb) e
int_lt-both n a b p q false sa sb = rw (signed_value-not_negative n a p sa, signed_value-not_negative n b q sb) refl

-- the same for two flags that test as equal
pub int_lt-same : (n a b : ℕ) (s t : Bool) → a < 2 ^ n → b < 2 ^ n → s ≡ int_lt (signed_value (bit_value n a)) (pos 0) → t ≡ int_lt (signed_value (bit_value n b)) (pos 0) → beq s t ≡ true → nat_lt a b ≡ int_lt (signed_value (bit_value n a)) (signed_value (bit_value n b))
int_lt-same n a b s t p q es et same =
    sym (int_lt-both n a b p q s (sym es) (sym et ∙ sym (beq-same s t same)))

-- two numbers of different signs
pub int_lt-other : (x y : ℤ) → int_lt x (pos 0) ≢ int_lt y (pos 0) → int_lt x y ≡ int_lt x (pos 0)
int_lt-other (pos a) (pos b) s = absurd (s (int_lt-pos a ∙ sym (int_lt-pos b)))
int_lt-other (pos a) (negsuc b) s = sym (int_lt-pos a)
int_lt-other (negsuc a) (pos b) s = refl
int_lt-other (negsuc a) (negsuc b) s = absurd (s refl)

-- ---- the operators, from what the code computes: s and t are the signs of x and y, p and q their absolute values

-- of one sign
pub quotient-same : (n : ℕ) (x y : ℤ) (s t : Bool) (p q r : ℕ) → s ≡ int_lt x (pos 0) → t ≡ int_lt y (pos 0) → p ≡ unsigned_abs x → q ≡ unsigned_abs y → p < 2 ^ n → r ≡ p / q → beq s t ≡ true → r ≡ wrapped n (int_div x y)
quotient-same n x y s t p q r es et ep eq fits er same =
    let signs : int_lt x (pos 0) ≡ int_lt y (pos 0) = sym es ∙ beq-same s t same ∙ et in
    let e : r ≡ unsigned_abs x / unsigned_abs y = cc in
    let le : p / q ≤ p = div-le_self p q in
    let below : unsigned_abs x / unsigned_abs y < 2 ^ n = omega arith in
    e ∙ sym (wrapped-int_div-same n x y signs below)

-- of different signs
pub quotient-other : (n : ℕ) (x y : ℤ) (s t : Bool) (p q r : ℕ) → s ≡ int_lt x (pos 0) → t ≡ int_lt y (pos 0) → p ≡ unsigned_abs x → q ≡ unsigned_abs y → p < 2 ^ n → r ≡ p / q → beq s t ≡ false → (2 ^ n + 0 - r) % 2 ^ n ≡ wrapped n (int_div x y)
quotient-other n x y s t p q r es et ep eq fits er other =
    let signs : int_lt x (pos 0) ≢ int_lt y (pos 0) = λ (h : int_lt x (pos 0) ≡ int_lt y (pos 0)). beq-other s t other (es ∙ h ∙ sym et) in
    let e : r ≡ unsigned_abs x / unsigned_abs y = cc in
    let le : p / q ≤ p = div-le_self p q in
    let below : unsigned_abs x / unsigned_abs y < 2 ^ n = omega arith in
    ap (λ (k : ℕ). (2 ^ n + 0 - k) % 2 ^ n) e ∙ sym (wrapped-int_div-other n x y signs below)

-- of one sign
pub product-same : (n : ℕ) (x y : ℤ) (s t : Bool) (p q r : ℕ) → s ≡ int_lt x (pos 0) → t ≡ int_lt y (pos 0) → p ≡ unsigned_abs x → q ≡ unsigned_abs y → r < 2 ^ n → r ≡ p * q → beq s t ≡ true → r ≡ wrapped n (x *ℤ y)
product-same n x y s t p q r es et ep eq fits er same =
    let signs : int_lt x (pos 0) ≡ int_lt y (pos 0) = sym es ∙ beq-same s t same ∙ et in
    let e : r ≡ unsigned_abs x * unsigned_abs y = cc in
    let below : unsigned_abs x * unsigned_abs y < 2 ^ n = omega arith in
    e ∙ sym (wrapped-mul-same n x y signs below)

-- of different signs
pub product-other : (n : ℕ) (x y : ℤ) (s t : Bool) (p q r : ℕ) → s ≡ int_lt x (pos 0) → t ≡ int_lt y (pos 0) → p ≡ unsigned_abs x → q ≡ unsigned_abs y → r < 2 ^ n → r ≡ p * q → beq s t ≡ false → (2 ^ n + 0 - r) % 2 ^ n ≡ wrapped n (x *ℤ y)
product-other n x y s t p q r es et ep eq fits er other =
    let signs : int_lt x (pos 0) ≢ int_lt y (pos 0) = λ (h : int_lt x (pos 0) ≡ int_lt y (pos 0)). beq-other s t other (es ∙ h ∙ sym et) in
    let e : r ≡ unsigned_abs x * unsigned_abs y = cc in
    let below : unsigned_abs x * unsigned_abs y < 2 ^ n = omega arith in
    ap (λ (k : ℕ). (2 ^ n + 0 - k) % 2 ^ n) e ∙ sym (wrapped-mul-other n x y signs below)

-- of a number that is not negative
pub remainder-not_negative : (n : ℕ) (x y : ℤ) (p q r : ℕ) → int_lt x (pos 0) ≡ false → p ≡ unsigned_abs x → q ≡ unsigned_abs y → p < 2 ^ n → r ≡ p % q → r ≡ wrapped n (int_rem x y)
remainder-not_negative n x y p q r s ep eq fits er =
    let e : r ≡ unsigned_abs x % unsigned_abs y = cc in
    let le : p % q ≤ p = mod-le p q in
    let below : unsigned_abs x % unsigned_abs y < 2 ^ n = omega arith in
    e ∙ sym (wrapped-int_rem-pos n x y s below)

-- of a negative number
pub remainder-negative : (n : ℕ) (x y : ℤ) (p q r : ℕ) → int_lt x (pos 0) ≡ true → p ≡ unsigned_abs x → q ≡ unsigned_abs y → p < 2 ^ n → r ≡ p % q → (2 ^ n + 0 - r) % 2 ^ n ≡ wrapped n (int_rem x y)
remainder-negative n x y p q r s ep eq fits er =
    let e : r ≡ unsigned_abs x % unsigned_abs y = cc in
    let le : p % q ≤ p = mod-le p q in
    let below : unsigned_abs x % unsigned_abs y < 2 ^ n = omega arith in
    ap (λ (k : ℕ). (2 ^ n + 0 - k) % 2 ^ n) e ∙ sym (wrapped-int_rem-neg n x y s below)

-- the formula where the divisor is not 0
pub signed_quotient-nonzero : (n a b : ℕ) → 0 < b → signed_quotient (bit_value n a) (bit_value n b) ≡ wrapped n (int_div (signed_value (bit_value n a)) (signed_value (bit_value n b)))
unfolding signed_quotient
signed_quotient-nonzero n a b h = let e : (b == 0) ≡ false = grind (arith, nat_tests) in rw e refl

-- the formula where the divisor is not 0
pub signed_remainder-nonzero : (n a b : ℕ) → 0 < b → signed_remainder (bit_value n a) (bit_value n b) ≡ wrapped n (int_rem (signed_value (bit_value n a)) (signed_value (bit_value n b)))
unfolding signed_remainder
signed_remainder-nonzero n a b h = let e : (b == 0) ≡ false = grind (arith, nat_tests) in rw e refl

-- the formula where the flag is set
pub long_product-signed : (n a b : ℕ) → long_product (bit_value n a) (bit_value n b) true ≡ wrapped (2 * n) (signed_value (bit_value n a) *ℤ signed_value (bit_value n b))
unfolding long_product
long_product-signed n a b = refl

-- a product of two numbers of n bits
pub product_fits : (n a b : ℕ) → a < 2 ^ n → b < 2 ^ n → a * b < 2 ^ (2 * n)
product_fits n a b p q =
    let e : 2 * n ≡ n + n = omega arith in
    let split : 2 ^ (2 * n) ≡ 2 ^ n * 2 ^ n = ap (λ (k : ℕ). 2 ^ k) e ∙ pow-add 2 n n in
    rw split (mul-lt a b (2 ^ n) (2 ^ n) p q)

-- where the divisor is 0
pub signed_quotient-zero : (n a b : ℕ) → b ≡ 0 → signed_quotient (bit_value n a) (bit_value n b) ≡ 2 ^ n - 1
unfolding signed_quotient
signed_quotient-zero n a b h = let e : (b == 0) ≡ true = grind (arith, nat_tests) in rw e refl

-- the formula of the remainder where the divisor is 0
pub signed_remainder-zero : (n a b : ℕ) → b ≡ 0 → signed_remainder (bit_value n a) (bit_value n b) ≡ a
unfolding signed_remainder
signed_remainder-zero n a b h = let e : (b == 0) ≡ true = grind (arith, nat_tests) in rw e refl
