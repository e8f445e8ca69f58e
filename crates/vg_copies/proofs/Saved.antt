-- What the spare holds, and which move is into a place.
use Rattle.std.proofs.Common.{◌≡◌, ◌≢◌, ℕ, ◌<◌, ◌-◌, ◌⊎◌, inl, inr, Bool, true, false, cond, List, [], ◌∷◌, ◌++◌, length, get_or, Option, Some, None, sym, refl, ap, ◌∙◌, subst, if◌then◌else◌}
use Rattle.std.specs.Prelude.{MatchOption}
use Rattle.std.proofs.lemmas.Option.{none-some}
use Rattle.std.proofs.lemmas.List.{length-set, get_or-set_same, get_or-set_other}
use Rattle.std.proofs.lemmas.List.Sums.{fold_push}
use Rattle.indexmap.specs.IndexMap.{IndexMap, get_by}
use Rattle.vg_goal.specs.declared.place.Place.{Place}
use Rattle.vg_goal.specs.Places.{same_place}
use Rattle.vg_goal.proofs.Same.{same_place-cases, same_place-refl}
use Rattle.vg_copies.specs.declared.pending.Pending.{Pending}
use Rattle.vg_copies.specs.Copies.{Move, Cells, copied, after}
use Rattle.vg_copies.specs.Schedule.{IsAt, is_saved, writer, lowered, IsNumbered}

pub is_saved-cases : (saved : Option Place) (place : Place) → ((is_saved saved place ≡ true) × (saved ≡ Some place)) ⊎ ((is_saved saved place ≡ false) × (saved ≢ Some place))
is_saved-cases None place = inr (refl, λ same. cc)
is_saved-cases (Some saved) place = elim (same_place-cases saved place) [
  | inl e ↦ inl (e.0, ap Some e.1)
  | inr e ↦ inr (e.0, λ same. e.1 (let equal : saved ≡ place = cc in equal))
]

-- one more copy
pub after_push : (copies : List Move) (copy : Move) (cells : Cells) → after (copies ++ copy ∷ []) cells ≡ copied (after copies cells) copy
after_push copies copy cells = fold_push copied cells copies copy

pub after_push-there : (copies : List Move) (copy : Move) (cells : Cells) (place : Place) → place ≡ copy.1 → after (copies ++ copy ∷ []) cells place ≡ after copies cells copy.0
after_push-there copies copy cells place same =
    ap (λ (held : Cells). held place) (after_push copies copy cells)
    ∙ ap (λ (b : Bool). cond b (after copies cells copy.0) (after copies cells place)) (ap (λ (p : Place). same_place p copy.1) same ∙ same_place-refl copy.1)

pub after_push-other : (copies : List Move) (copy : Move) (cells : Cells) (place : Place) → place ≢ copy.1 → after (copies ++ copy ∷ []) cells place ≡ after copies cells place
after_push-other copies copy cells place other =
    ap (λ (held : Cells). held place) (after_push copies copy cells)
    ∙ elim (same_place-cases place copy.1) as (λ _. copied (after copies cells) copy place ≡ after copies cells place) [
      | inl e ↦ absurd (other e.1)
      | inr e ↦ ap (λ (b : Bool). cond b (after copies cells copy.0) (after copies cells place)) e.0
    ]

module _ {S : Type 0} (saved : Option Place) (numbers : IndexMap Place ℕ S) (steps : List Pending) (numbered : IsNumbered numbers steps) where
  by_number : (place : Place) (o : Option ℕ) → get_by (same_place place) numbers ≡ o → MatchOption o ((k : ℕ) (step : Pending) → IsAt steps k step → step.destination ≢ place) (λ k. (step : Pending) × IsAt steps k step × (step.destination ≡ place))
  by_number place o is = subst (λ (r : Option ℕ). MatchOption r ((k : ℕ) (step : Pending) → IsAt steps k step → step.destination ≢ place) (λ k. (step : Pending) × IsAt steps k step × (step.destination ≡ place))) is (numbered place)

  -- the writer of a place is the move into it
  pub writer-is : (place : Place) (k : ℕ) → writer saved numbers place ≡ Some k → (saved ≢ Some place) × ((step : Pending) × IsAt steps k step × (step.destination ≡ place))
  writer-is place k is = elim (is_saved-cases saved place) [
    | inl e ↦ absurd (none-some k (sym (ap (λ (b : Bool). if b then None else get_by (same_place place) numbers) e.0) ∙ is))
    | inr e ↦ (
      e.1,
      let found : get_by (same_place place) numbers ≡ Some k = sym (ap (λ (b : Bool). if b then None else get_by (same_place place) numbers) e.0) ∙ is in
          by_number place (Some k) found,
    )
  ]

  -- without one the place is read from the spare, or no move is into it
  pub writer-none : (place : Place) → writer saved numbers place ≡ None → (saved ≡ Some place) ⊎ ((k : ℕ) (step : Pending) → IsAt steps k step → step.destination ≢ place)
  writer-none place is = elim (is_saved-cases saved place) [
    | inl e ↦ inl e.1
    | inr e ↦ inr (
        let found : get_by (same_place place) numbers ≡ None = sym (ap (λ (b : Bool). if b then None else get_by (same_place place) numbers) e.0) ∙ is in
        by_number place None found
        )
  ]

-- the counts after one was lowered
pub length-lowered : (next : Option ℕ) (readers : List ℕ) → length (lowered next readers) ≡ length readers
length-lowered None readers = refl
length-lowered (Some k) readers = length-set readers k (get_or readers k 0 - 1)

pub lowered-other : (next : Option ℕ) (readers : List ℕ) (k : ℕ) → next ≢ Some k → get_or (lowered next readers) k 0 ≡ get_or readers k 0
lowered-other None readers k other = refl
lowered-other (Some j) readers k other = get_or-set_other readers j k (get_or readers j 0 - 1) 0 (λ same. other (ap Some (sym same)))

pub lowered-same : (k : ℕ) (readers : List ℕ) → k < length readers → get_or (lowered (Some k) readers) k 0 ≡ get_or readers k 0 - 1
lowered-same k readers below = get_or-set_same readers k (get_or readers k 0 - 1) 0 below
