-- masks of a run of ones, as the code computes them
use Rattle.std.proofs.Common.{◌≡◌, ℕ, ◌-◌, ◌/◌, ◌%◌, ◌^◌, ◌≤◌, bit_and, arith, ap, ◌∙◌}
use Rattle.std.proofs.lemmas.Nat.{and_mask}
use Rattle.std.proofs.lemmas.Nat.Bits.{ones_shr}

-- `MAX >> (w - n)` at w bits has n ones
ones_shr_rest : (w n : ℕ) → n ≤ w → (2 ^ w - 1) / 2 ^ (w - n) ≡ 2 ^ n - 1
ones_shr_rest w n h =
    let le : w - n ≤ w = omega arith in
    let e : w - (w - n) ≡ n = omega arith in
    ones_shr w (w - n) le ∙ ap (λ (k : ℕ). 2 ^ k - 1) e

-- at 64 bits
pub ones_of_64 : (n : ℕ) → n ≤ 64 → 18446744073709551615 / 2 ^ (64 - n) ≡ 2 ^ n - 1
ones_of_64 n h = ones_shr_rest 64 n h

-- at 128 bits
pub ones_of_128 : (n : ℕ) → n ≤ 128 → 340282366920938463463374607431768211455 / 2 ^ (128 - n) ≡ 2 ^ n - 1
ones_of_128 n h = ones_shr_rest 128 n h

-- a word under that mask keeps its low n bits
pub masked_64 : (v n : ℕ) → n ≤ 64 → bit_and v (18446744073709551615 / 2 ^ (64 - n)) ≡ v % 2 ^ n
masked_64 v n h = ap (bit_and v) (ones_of_64 n h) ∙ and_mask v n

-- the same at 128 bits
pub masked_128 : (v n : ℕ) → n ≤ 128 → bit_and v (340282366920938463463374607431768211455 / 2 ^ (128 - n)) ≡ v % 2 ^ n
masked_128 v n h = ap (bit_and v) (ones_of_128 n h) ∙ and_mask v n
