-- The first of some places is one.
use Rattle.std.proofs.Common.{◌≡◌, ◌⊎◌, inl, inr, List, [], ◌∷◌, Option, Some, None, refl}
use Rattle.vg_ir.specs.declared.spot.Spot.{Spot}
use Rattle.vg_ircheck.specs.Place.{first_of, earlier, first_place}

-- where no place is there is no first one
pub no_place : (places : List Spot) (at : Spot) → places ≡ [] → first_place places ≡ Some at → ⊥
unfolding first_place
no_place [] at e h = absurd (cc)
no_place (s ∷ ss) at e h = absurd (cc)

-- two first places of a list are one
pub place_is_one : (places : List Spot) (a b : Spot) → first_place places ≡ Some a → first_place places ≡ Some b → a ≡ b
place_is_one places a b h k = cc

-- of a place and others one is the first
pub one_is_first : (s : Spot) (o : Option Spot) → (at : Spot) × (first_of (Some s) o ≡ Some at)
one_is_first s None = (s, refl)
one_is_first s (Some t) = (earlier s t, refl)

-- where a place is there is a first one
pub has_place : (places : List Spot) → (places ≡ []) ⊎ ((at : Spot) × (first_place places ≡ Some at))
unfolding first_place
has_place [] = inl refl
has_place (s ∷ ss) = inr (one_is_first s (first_place ss))
