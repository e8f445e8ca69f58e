-- What a test on places says.
use Rattle.std.proofs.Common.{◌≡◌, ◌≢◌, ◌⊎◌, inl, inr, Bool, true, false, refl, sym, ap, ◌∙◌, true≢false, rules}
use Rattle.vg_goal.specs.declared.place.Place.{Place}
use Rattle.vg_goal.specs.contracts.place.PlacePartialEq.TheImpl as derived
use Rattle.vg_goal.specs.Places.{same_place}

-- `same_place` is equality
pub same_place-true : (a b : Place) → same_place a b ≡ true → a ≡ b
same_place-true a b h = search rules

pub same_place-refl : (a : Place) → same_place a a ≡ true
same_place-refl a = search rules

pub same_place-cases : (a b : Place) → ((same_place a b ≡ true) × (a ≡ b)) ⊎ ((same_place a b ≡ false) × (a ≢ b))
same_place-cases a b = by (same_place a b) refl
  where
    by : (r : Bool) → same_place a b ≡ r → ((same_place a b ≡ true) × (a ≡ b)) ⊎ ((same_place a b ≡ false) × (a ≢ b))
    by true e = inl (e, same_place-true a b e)
    by false e = inr (e, λ same. true≢false (sym (same_place-refl a) ∙ ap (same_place a) same ∙ e))

-- the `==` of places
pub place_eq : (a b : Place) → (derived.ghosts).eq a b ≡ same_place a b
place_eq a b = search rules
