-- Draws in a row.
use Rattle.std.proofs.Common.{◌≡◌, ℕ, zero, suc, ◌+◌, refl, sym, ◌∙◌, ap, add-zero}
use Rattle.std.proofs.Math.Nat.{add-suc}
use Rattle.vg_gen.specs.Drawing.{next_number, number_after}

-- so many draws, and then so many more
pub number_after-add : (x m n : ℕ) → number_after (number_after x m) n ≡ number_after x (m + n)
unfolding number_after
number_after-add x m zero = ap (number_after x) (sym (add-zero m))
number_after-add x m (suc n) = ap next_number (number_after-add x m n) ∙ ap (number_after x) (sym (add-suc m n))

-- no draws
pub number_after-zero : (x : ℕ) → number_after x 0 ≡ x
unfolding number_after
number_after-zero x = refl
