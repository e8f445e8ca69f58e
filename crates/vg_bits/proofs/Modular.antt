-- what a machine word keeps of a result, and how the low bits of that are the result's own
use Rattle.std.proofs.Common.{◌≡◌, ℕ, zero, suc, ◌+◌, ◌-◌, ◌*◌, ◌%◌, ◌^◌, ◌<◌, ◌≤◌, bit_or, arith, ap, sym, ◌∙◌}
use Rattle.std.proofs.lemmas.Nat.{pow_pos, pow-add, or_shifted, mul-add-lt, shl_whole, mul-mod}
use Rattle.std.proofs.Math.Nat.{add-mul-mod_self_left, pow-le-pow_right, mul-suc}
use Rattle.std.proofs.Math.Pow.{mod-mod-pow}

-- the low n bits of the low w bits
pub mod-mod_wide : (w n v : ℕ) → n ≤ w → v % 2 ^ w % 2 ^ n ≡ v % 2 ^ n
mod-mod_wide w n v h =
    let e : w ≡ (w - n) + n = omega arith in
    ap (λ (k : ℕ). v % 2 ^ k % 2 ^ n) e ∙ mod-mod-pow v (w - n) n

-- at 64 bits
pub mod-mod_64 : (n v : ℕ) → n ≤ 64 → v % 18446744073709551616 % 2 ^ n ≡ v % 2 ^ n
mod-mod_64 n v h = mod-mod_wide 64 n v h

-- at 128 bits
pub mod-mod_128 : (n v : ℕ) → n ≤ 128 → v % 340282366920938463463374607431768211456 % 2 ^ n ≡ v % 2 ^ n
mod-mod_128 n v h = mod-mod_wide 128 n v h

-- a power of two is a multiple of each lower one
pow_split : (w n : ℕ) → n ≤ w → 2 ^ w ≡ 2 ^ n * 2 ^ (w - n)
pow_split w n h =
    let e : w ≡ n + (w - n) = omega arith in
    ap (λ (k : ℕ). 2 ^ k) e ∙ pow-add 2 n (w - n)

-- one product less, and one more
times_pred : (p k : ℕ) → 0 < k → p * (k - 1) + p ≡ p * k
times_pred p zero h = absurd (omega arith)
times_pred p (suc j) h = let e : suc j - 1 ≡ j = omega arith in rw e (omega (arith, mul-suc p j))

-- 2 ^ n goes into 2 ^ w once more than into what is below it
pow_rest : (w n : ℕ) → n ≤ w → 2 ^ n * (2 ^ (w - n) - 1) + 2 ^ n ≡ 2 ^ w
pow_rest w n h = times_pred (2 ^ n) (2 ^ (w - n)) (pow_pos (w - n)) ∙ sym (pow_split w n h)

-- a difference at w bits, and its low n bits
pub difference_wide : (w n a b : ℕ) → n ≤ w → b < 2 ^ n → (a + (2 ^ w - b)) % 2 ^ n ≡ (2 ^ n + a - b) % 2 ^ n
difference_wide w n a b h below =
    let rest : 2 ^ n * (2 ^ (w - n) - 1) + 2 ^ n ≡ 2 ^ w = pow_rest w n h in
    let e : a + (2 ^ w - b) ≡ (2 ^ n + a - b) + 2 ^ n * (2 ^ (w - n) - 1) = omega arith in
    ap (λ (k : ℕ). k % 2 ^ n) e ∙ add-mul-mod_self_left (2 ^ n + a - b) (2 ^ n) (2 ^ (w - n) - 1)

-- at 128 bits
pub difference_128 : (n a b : ℕ) → n ≤ 128 → b < 2 ^ n → (a + (340282366920938463463374607431768211456 - b)) % 340282366920938463463374607431768211456 % 2 ^ n ≡ (2 ^ n + a - b) % 2 ^ n
difference_128 n a b h below =
    mod-mod_128 n (a + (340282366920938463463374607431768211456 - b)) h ∙ difference_wide 128 n a b h below

-- the product of two low words
pub product_64 : (n a b : ℕ) → n ≤ 64 → (a % 18446744073709551616) * (b % 18446744073709551616) % 18446744073709551616 % 2 ^ n ≡ (a * b) % 2 ^ n
product_64 n a b h =
    ap (λ (k : ℕ). k % 2 ^ n) (sym (mul-mod a b 18446744073709551616)) ∙ mod-mod_64 n (a * b) h

-- a number of m bits has at most n bits
pub fits_wider : (v m n : ℕ) → v < 2 ^ m → m ≤ n → v < 2 ^ n
fits_wider v m n h le =
    let p : 2 ^ m ≤ 2 ^ n = pow-le-pow_right (omega arith) le in
    omega arith

-- one number above another
pub joined : (i j a b : ℕ) → a < 2 ^ i → b < 2 ^ j → bit_or (a * 2 ^ j % 2 ^ (i + j)) b ≡ a * 2 ^ j + b
joined i j a b p q =
    ap (λ (k : ℕ). bit_or k b) (shl_whole a i j (i + j) p (omega arith)) ∙ or_shifted a j b q

-- and its range
pub joined_below : (i j a b : ℕ) → a < 2 ^ i → b < 2 ^ j → a * 2 ^ j + b < 2 ^ (i + j)
joined_below i j a b p q =
    let split : 2 ^ (i + j) ≡ 2 ^ i * 2 ^ j = pow-add 2 i j in
    rw split (omega (arith, mul-add-lt a (2 ^ j) b (2 ^ i) p q))

pub ruleset mod_mod = (mod-mod_64, mod-mod_128, product_64)

pub ruleset joins = (joined, joined_below)
