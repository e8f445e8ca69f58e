-- An initialiser by its first lexeme, as the code reads it.
use Rattle.std.proofs.Common.{◌≡◌, ℕ, zero, suc, ◌-◌, ◌<◌, true, false, Option, List, [], ◌∷◌, codes, refl, ap, arith}
use Rattle.vg_irparse.specs.Placed.{Placed}
use Rattle.vg_irglobal.specs.ReadingInitial.{next_in, only, elements_at, fields_at, simple_at, initial_within}

pub some_elements : (n : ℕ) (v : Option ℕ) (d : ℕ) (ts : List Placed) → 0 < n → next_in (only (codes "[")) ts ≡ true → initial_within n v d ts ≡ elements_at (initial_within (n - 1)) d ts
unfolding initial_within
some_elements zero v d ts p h = absurd (omega arith)
some_elements (suc n) v d [] p h = absurd (cc)
some_elements (suc n) v d (t ∷ ts) p h = let e : suc n - 1 ≡ n = omega arith in rw h (rw e refl)

pub some_fields : (n : ℕ) (v : Option ℕ) (d : ℕ) (ts : List Placed) → 0 < n → next_in (only (codes "[")) ts ≡ false → next_in (only (codes "{")) ts ≡ true
    → initial_within n v d ts ≡ fields_at (initial_within (n - 1)) d ts
unfolding initial_within
some_fields zero v d ts p h k = absurd (omega arith)
some_fields (suc n) v d [] p h k = absurd (cc)
some_fields (suc n) v d (t ∷ ts) p h k = let e : suc n - 1 ≡ n = omega arith in rw h (rw k (rw e refl))

pub no_bracket : (n : ℕ) (v : Option ℕ) (d : ℕ) (ts : List Placed) → next_in (only (codes "[")) ts ≡ false → next_in (only (codes "{")) ts ≡ false
    → initial_within n v d ts ≡ simple_at v d ts
unfolding initial_within
no_bracket zero v d [] h k = refl
no_bracket (suc n) v d [] h k = refl
no_bracket zero v d (t ∷ ts) h k = rw h (rw k refl)
no_bracket (suc n) v d (t ∷ ts) h k = rw h (rw k refl)
