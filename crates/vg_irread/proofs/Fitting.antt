-- A number of 2 ^ 64 or more fits no integer.
use Rattle.std.proofs.Common.{◌≡◌, ℕ, ◌<◌, ◌≤◌, ◌^◌, ◌-◌, Bool, true, false, cond, nat_lt, nat_le, arith}
use Rattle.std.proofs.Math.Nat.{pow-le-pow_right}
use Rattle.std.proofs.lemmas.Nat.{pow_below}
use Rattle.std.proofs.lemmas.Bool.Decides.{nat_tests}
use Rattle.vg_ir.specs.declared.number.Number.{Number}
use Rattle.vg_ir.specs.Shape.{number_fits}

not_le : (m n : ℕ) → n < m → nat_le m n ≡ false
not_le m n h = grind (arith, nat_tests)

not_lt : (m n : ℕ) → n ≤ m → nat_lt m n ≡ false
not_lt m n h = grind (arith, nat_tests)

below : (w : ℕ) → w ≤ 64 → 2 ^ w ≤ 2 ^ 64
below w h = pow-le-pow_right (omega arith) h

beyond_by : (b : Bool) (w m : ℕ) → 0 < w → w ≤ 64 → 2 ^ 64 ≤ m → cond b (nat_le m (2 ^ (w - 1))) (nat_lt m (2 ^ w)) ≡ false
beyond_by true w m l h k = let p = pow_below (w - 1) 64 (omega (arith, l, h)) in not_le m (2 ^ (w - 1)) (omega (arith, p, k))
beyond_by false w m l h k = let p = below w h in not_lt m (2 ^ w) (omega (arith, p, k))

pub beyond : (width : ℕ) (n : Number) → 0 < width → width ≤ 64 → 2 ^ 64 ≤ n.magnitude → number_fits width n ≡ false
beyond width n l h k = beyond_by n.negative width n.magnitude l h k
