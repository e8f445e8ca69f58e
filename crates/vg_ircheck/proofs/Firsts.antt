-- The first of a list is one.
use Rattle.std.proofs.Common.{◌≡◌, ◌⊎◌, inl, inr, List, [], ◌∷◌, refl, sym, ◌∙◌}
use Rattle.vg_ircheck.specs.Check.{IsFirst, HasNone}

module _ {A : Type 0} (P : A → Type 0) where
  -- two that are the first of a list are one
  pub first_is_one : (xs : List A) (a b : A) → IsFirst P xs a → IsFirst P xs b → a ≡ b
  first_is_one [] a b h k = absurd h
  first_is_one (x ∷ xs) a b (inl h) (inl k) = h.1 ∙ sym k.1
  first_is_one (x ∷ xs) a b (inl h) (inr k) = absurd (k.0 h.0)
  first_is_one (x ∷ xs) a b (inr h) (inl k) = absurd (h.0 k.0)
  first_is_one (x ∷ xs) a b (inr h) (inr k) = first_is_one xs a b h.1 k.1

  -- where none has the property there is no first
  pub none_is_first : (xs : List A) (a : A) → HasNone P xs → IsFirst P xs a → ⊥
  none_is_first [] a n h = h
  none_is_first (x ∷ xs) a n (inl h) = n.0 h.0
  none_is_first (x ∷ xs) a n (inr h) = none_is_first xs a n.1 h.1

  -- where it can be told of each whether it has the property, there is a first one or none
  pub decided : ((x : A) → P x ⊎ (P x → ⊥)) → (xs : List A) → HasNone P xs ⊎ ((x : A) × IsFirst P xs x)
  decided tell [] = inl tt
  decided tell (x ∷ xs) = by_cases (tell x) (decided tell xs)
    where
      by_cases : P x ⊎ (P x → ⊥) → HasNone P xs ⊎ ((y : A) × IsFirst P xs y) → HasNone P (x ∷ xs) ⊎ ((y : A) × IsFirst P (x ∷ xs) y)
      by_cases (inl h) rest = inr (x, inl (h, refl))
      by_cases (inr n) (inl none) = inl (n, none)
      by_cases (inr n) (inr found) = inr (found.0, inr (n, found.1))
