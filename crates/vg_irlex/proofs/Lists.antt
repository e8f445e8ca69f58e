-- Lists cut in two.
use Rattle.std.proofs.Common.{◌≡◌, ◌⊎◌, Bool, true, false, ◌||◌, List, [], ◌∷◌, ◌++◌, refl, sym, inl, inr}
pub use Rattle.std.proofs.lemmas.Bool.{and_parts as both, and_from as both-from, or_parts as neither, false_from_ne_true as is_false}

pub false≢true : {A : Type 0} → false ≡ true → A
false≢true h = absurd (cc)

pub or_false : (b : Bool) → (b || false) ≡ b
or_false true = refl
or_false false = refl

pub head : {A : Type 0} (a b : A) (c d : List A) → a ∷ c ≡ b ∷ d → a ≡ b
head a b c d h = cc

pub tail : {A : Type 0} (a b : A) (c d : List A) → a ∷ c ≡ b ∷ d → c ≡ d
tail a b c d h = cc

-- of two fronts of a list one begins the other
pub fronts : {A : Type 0} (a b c d : List A) → a ++ b ≡ c ++ d
    → ((m : List A) × (c ≡ a ++ m) × (b ≡ m ++ d)) ⊎ ((m : List A) × (a ≡ c ++ m) × (d ≡ m ++ b))
fronts [] b c d h = inl (c, refl, h)
fronts (x ∷ a) b [] d h = inr (x ∷ a, refl, sym h)
fronts (x ∷ a) b (y ∷ c) d h =
    let e : x ≡ y = cc in
    let t : a ++ b ≡ c ++ d = cc in
    elim (fronts a b c d t) [ inl m ↦ inl (m.0, cc, m.2) | inr m ↦ inr (m.0, cc, m.2) ]
