-- A number has the digits that its width gives it.
use Rattle.std.proofs.Common.{◌≡◌, ℕ, zero, suc, ◌+◌, ◌*◌, ◌/◌, ◌^◌, ◌<◌, ◌≤◌, IsTrue, refl, ap, sym, ◌∙◌, arith}
use Rattle.std.proofs.lemmas.Nat.{pow-add}
use Rattle.std.proofs.Math.Nat.{pow-suc, pow-le-pow_right}
use Rattle.std.proofs.lemmas.Bool.Decides.{nat_tests}
use Rattle.vg_isa.specs.Accepted.{is_machine_width}

-- four bits a digit
hex_power : (k : ℕ) → 16 ^ k ≡ 2 ^ (4 * k)
hex_power zero = refl
hex_power (suc k) =
    let e : 4 * suc k ≡ 4 * k + 4 = omega arith in
    pow-suc 16 k ∙ ap (λ (p : ℕ). p * 16) (hex_power k) ∙ sym (ap (λ (j : ℕ). 2 ^ j) e ∙ pow-add 2 (4 * k) 4)

-- digits of as many bits as the width, or of more
fits : (w digits n : ℕ) → w ≤ 4 * digits → n < 2 ^ w → n < 16 ^ digits
fits w digits n most small =
    let more : 2 ^ w ≤ 2 ^ (4 * digits) = pow-le-pow_right (omega arith) most in
    omega (arith, hex_power digits)

-- a value
pub value_fits : (w n : ℕ) → n < 2 ^ w → n < 16 ^ ((w + 3) / 4)
value_fits w n small = fits w ((w + 3) / 4) n (omega arith) small

whole : (w : ℕ) → IsTrue (is_machine_width w) → w ≤ 4 * (w / 4)
whole w machine = grind (arith, nat_tests)

-- an address
pub address_fits : (w n : ℕ) → IsTrue (is_machine_width w) → n < 2 ^ w → n < 16 ^ (w / 4)
address_fits w n machine small = fits w (w / 4) n (whole w machine) small
