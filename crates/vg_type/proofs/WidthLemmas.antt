-- Numbers below a power of 2.
use Rattle.std.proofs.Common.{◌≡◌, ℕ, ◌+◌, ◌*◌, ◌/◌, ◌^◌, ◌<◌, ◌≤◌, true, nat_eq, nat_lt, arith}
use Rattle.std.proofs.lemmas.Bool.Decides.{nat_tests}
use Rattle.std.proofs.Math.Pow.{pow_mono}
use Rattle.std.proofs.Math.Nat.{lt-div-mul-add, div-eq_of_lt}
use Rattle.std.proofs.lemmas.Nat.{pow_pos}

below_by : (n d : ℕ) → 0 < d → n < n / d * d + d → (n < d → n / d ≡ 0) → nat_eq (n / d) 0 ≡ nat_lt n d
below_by n d h k l = grind (arith, nat_tests, h, k, l)

-- a number is below a power of 2 where nothing is left of it above
pub below_by_quotient : (n w : ℕ) → nat_eq (n / 2 ^ w) 0 ≡ nat_lt n (2 ^ w)
below_by_quotient n w = below_by n (2 ^ w) (pow_pos w) (lt-div-mul-add (pow_pos w)) (λ h. div-eq_of_lt h)

below_more : (n a b : ℕ) → n < a → a ≤ b → true ≡ nat_lt n b
below_more n a b h k = grind (arith, nat_tests, h, k)

pub below_wide : (n w : ℕ) → n < 2 ^ 128 → 128 ≤ w → true ≡ nat_lt n (2 ^ w)
below_wide n w h k = below_more n (2 ^ 128) (2 ^ w) h (pow_mono k)

pub ruleset width_steps = (below_by_quotient, below_wide)
