-- A module may be placed, or isn't for one thing.
use Rattle.std.proofs.Common.{◌≡◌, ◌⊎◌, inl, inr, ℕ, Bool, true, false, true≢false, List, [], Some, refl, sym, ap, ◌∙◌}
use Rattle.vg_ir.specs.declared.spot.Spot.{Spot}
use Rattle.vg_ir.specs.declared.module.Parts.{Parts}
use Rattle.vg_ircheck.specs.Place.{first_place}
use Rattle.vg_ircheck.proofs.Places.{no_place, place_is_one, has_place}
use Rattle.vg_irplace.specs.declared.target.Target.{Target}
use Rattle.vg_irplace.specs.declared.argument.Argument.{Argument}
use Rattle.vg_irplace.specs.Refused.{are_arguments, size_places, Refusal, Args, Limit, IsPlaceable, IsUnplaced, OneRefusal}

module _ (m : Parts) (t : Target) (entry : List ℕ) (arguments : List Argument) where
  one : (a b : Refusal) → IsUnplaced m t entry arguments a → IsUnplaced m t entry arguments b → a ≡ b
  one Args Args h k = refl
  one Args (Limit at) h k = absurd (true≢false (sym k.0 ∙ h))
  one (Limit at) Args h k = absurd (true≢false (sym h.0 ∙ k))
  one (Limit at) (Limit other) h k = ap Limit (place_is_one _ at other h.1 k.1)

  none : (a : Refusal) → IsUnplaced m t entry arguments a → IsPlaceable m t entry arguments → ⊥
  none Args h k = true≢false (sym k.fit ∙ h)
  none (Limit at) h k = no_place _ at k.sizes h.1

  some_place : are_arguments m t entry arguments ≡ true
      → ((size_places m t ≡ []) ⊎ ((at : Spot) × (first_place (size_places m t) ≡ Some at)))
      → IsPlaceable m t entry arguments ⊎ ((a : Refusal) × IsUnplaced m t entry arguments a)
  some_place fit (inl none_at) = inl (record { fit = fit; sizes = none_at })
  some_place fit (inr found) = inr (Limit found.0, (fit, found.1))

  some_by : (b : Bool) → are_arguments m t entry arguments ≡ b → IsPlaceable m t entry arguments ⊎ ((a : Refusal) × IsUnplaced m t entry arguments a)
  some_by true e = some_place e (has_place (size_places m t))
  some_by false e = inr (Args, e)

  -- a module may be placed, or isn't for one thing
  pub one_refusal : OneRefusal m t entry arguments
  one_refusal = record { one = one; none = none; some = some_by (are_arguments m t entry arguments) refl }
