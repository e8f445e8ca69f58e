-- One byte further on in a text.
use Rattle.std.proofs.Common.{◌≡◌, ℕ, zero, suc, ◌+◌, ◌-◌, ◌<◌, nat_eq, List, [], ◌∷◌, length, refl, ap, arith, true, false, Bool, ◌∙◌, if◌then◌else◌}
use Rattle.std.proofs.lemmas.Bool.Decides.{nat_tests}
use Rattle.vg_top.specs.Position.{position_from}

pub at_the_end : (line column left : ℕ) (rest : List ℕ) → length rest ≡ 0 → position_from line column left rest ≡ (line, column)
at_the_end line column zero rest e = refl
at_the_end line column (suc n) [] e = refl
at_the_end line column (suc n) (c ∷ cs) e = absurd (cc)

is_feed : (c : ℕ) → c ≡ 10 → nat_eq c 10 ≡ true
is_feed c e = grind (arith, nat_tests)

is_no_feed : (c : ℕ) → (c ≡ 10 → ⊥) → nat_eq c 10 ≡ false
is_no_feed c n = grind (arith, nat_tests)

pub behind_feed : (line column left n c : ℕ) (cs : List ℕ) → left ≡ suc n → c ≡ 10 → position_from line column left (c ∷ cs) ≡ position_from (line + 1) 1 n cs
behind_feed line column left n c cs e h =
    ap (λ (k : ℕ). position_from line column k (c ∷ cs)) e
    ∙ ap (λ (b : Bool). if b then position_from (line + 1) 1 n cs else position_from line (column + 1) n cs) (is_feed c h)

pub behind_byte : (line column left n c : ℕ) (cs : List ℕ) → left ≡ suc n → (c ≡ 10 → ⊥) → position_from line column left (c ∷ cs) ≡ position_from line (column + 1) n cs
behind_byte line column left n c cs e h =
    ap (λ (k : ℕ). position_from line column k (c ∷ cs)) e
    ∙ ap (λ (b : Bool). if b then position_from (line + 1) 1 n cs else position_from line (column + 1) n cs) (is_no_feed c h)

-- a number above 0 has one in front
pub before : (left : ℕ) → 0 < left → left ≡ suc (left - 1)
before left h = omega (arith, h)

pub stopped : (line column left : ℕ) (rest : List ℕ) → left ≡ 0 → position_from line column left rest ≡ (line, column)
stopped line column zero rest e = refl
stopped line column (suc n) rest e = absurd (cc)
