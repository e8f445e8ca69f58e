-- The table of the moves into places, and the counts of the moves that read them.
use Rattle.std.proofs.Common.{◌≡◌, ◌≢◌, ℕ, ◌+◌, ◌<◌, ◌≤◌, ◌^◌, inl, inr, Bool, false, not, ◌&&◌, cond, List, [], ◌∷◌, ◌++◌, length, take, get_or, Option, Some, None, sym, refl, ap, ◌∙◌, subst, arith}
use Rattle.std.specs.Prelude.{slice_get, count_by, MatchOption}
use Rattle.std.specs.List.{All}
use Rattle.std.proofs.lemmas.Option.{slice_get_within}
use Rattle.std.proofs.lemmas.List.{length-set, get_or-set_same, get_or-set_other, length-take, take_all}
use Rattle.std.proofs.lemmas.List.Sums.{sum_by_more, count_by-le-length}
use Rattle.indexmap.specs.IndexMap.{IndexMap, get_by, Updates}
use Rattle.vg_goal.specs.declared.place.Place.{Place}
use Rattle.vg_goal.specs.Places.{same_place}
use Rattle.vg_goal.proofs.Same.{same_place-cases, place_eq}
use Rattle.vg_goal.specs.contracts.place.PlacePartialEq.TheImpl as derived
use Rattle.vg_copies.specs.declared.pending.Pending.{Pending}
use Rattle.vg_copies.specs.Schedule.{IsAt, reads, raised, IsNumbered, AreSingle, AreCounted}
use Rattle.vg_goal.proofs.Lists.{at_push, at_push_before, at_push_end, some_same}

abbrev NoneInto : List Pending → Place → Type 0
NoneInto steps place = (k : ℕ) (step : Pending) → IsAt steps k step → step.destination ≢ place

abbrev IsInto : List Pending → Place → ℕ → Type 0
IsInto steps place k = (step : Pending) × IsAt steps k step × (step.destination ≡ place)

-- what an insert says, by `same_place`
pub updates_at : {S : Type 0} (m n : IndexMap Place ℕ S) (k : Place) (v : ℕ) → Updates (derived.ghosts).eq m n k (Some v) → (q : Place) → get_by (same_place q) n ≡ cond (same_place k q) (Some v) (get_by (same_place q) m)
updates_at m n k v updates q =
    let one : (derived.ghosts).eq ≡ same_place = λ i a b. place_eq a b i in
    subst (λ (e : Place → Place → Bool). get_by (e q) n ≡ cond (e k q) (Some v) (get_by (e q) m)) one (updates.0 q)

module _ {S : Type 0} (m n : IndexMap Place ℕ S) (steps : List Pending) (step : Pending) (k : ℕ) where
  -- one more move is in the table
  pub numbered_push : IsNumbered m steps → ((q : Place) → get_by (same_place q) n ≡ cond (same_place step.destination q) (Some k) (get_by (same_place q) m)) → k ≡ length steps → IsNumbered n (steps ++ step ∷ [])
  numbered_push numbered updates last = λ place.
      elim (same_place-cases step.destination place) as (λ _. MatchOption (get_by (same_place place) n) (NoneInto (steps ++ step ∷ []) place) (IsInto (steps ++ step ∷ []) place)) [
        | inl e ↦
            let found : get_by (same_place place) n ≡ Some k = updates place ∙ ap (λ (b : Bool). cond b (Some k) (get_by (same_place place) m)) e.0 in
            let here : IsInto (steps ++ step ∷ []) place k = (step, ap (slice_get (steps ++ step ∷ [])) last ∙ at_push_end steps step, e.1) in
            subst (λ (o : Option ℕ). MatchOption o (NoneInto (steps ++ step ∷ []) place) (IsInto (steps ++ step ∷ []) place)) (sym found) here
        | inr e ↦
            let found : get_by (same_place place) n ≡ get_by (same_place place) m = updates place ∙ ap (λ (b : Bool). cond b (Some k) (get_by (same_place place) m)) e.0 in
            subst (λ (o : Option ℕ). MatchOption o (NoneInto (steps ++ step ∷ []) place) (IsInto (steps ++ step ∷ []) place)) (sym found) (by place e.1 (get_by (same_place place) m) (numbered place))
      ]
    where
      by : (place : Place) → step.destination ≢ place → (o : Option ℕ) → MatchOption o (NoneInto steps place) (IsInto steps place) → MatchOption o (NoneInto (steps ++ step ∷ []) place) (IsInto (steps ++ step ∷ []) place)
      by place other None nowhere = λ j s at. elim (at_push steps step j s at) [
        | inl old ↦ nowhere j s old
        | inr same ↦ λ into. other (ap (λ (x : Pending). x.destination) (sym same) ∙ into)
      ]
      by place other (Some j) found = (found.0, at_push_before steps step j found.0 found.1, found.2)

-- as many of the first moves read the destination of each as the list says
pub record CountsFirst (steps : List Pending) (readers : List ℕ) (i : ℕ) : Type 0 where
  pub lengths : length readers ≡ length steps
  pub counts : (k : ℕ) (step : Pending) → IsAt steps k step → get_or readers k 0 ≡ count_by (reads step.destination) (take i steps)

pub length-raised : (o : Option ℕ) (readers : List ℕ) → length (raised o readers) ≡ length readers
length-raised None readers = refl
length-raised (Some k) readers = length-set readers k (get_or readers k 0 + 1)

raised-other : (o : Option ℕ) (readers : List ℕ) (k : ℕ) → o ≢ Some k → get_or (raised o readers) k 0 ≡ get_or readers k 0
raised-other None readers k other = refl
raised-other (Some j) readers k other = get_or-set_other readers j k (get_or readers j 0 + 1) 0 (λ same. other (ap Some (sym same)))

module _ {S : Type 0} (numbers : IndexMap Place ℕ S) (steps : List Pending) (numbered : IsNumbered numbers steps) (single : AreSingle steps) (waiting : All (λ step. step.is_done ≡ false) steps) where
  into : (place : Place) (o : Option ℕ) → get_by (same_place place) numbers ≡ o → MatchOption o (NoneInto steps place) (IsInto steps place)
  into place o is = subst (λ (r : Option ℕ). MatchOption r (NoneInto steps place) (IsInto steps place)) is (numbered place)

  -- a count fits
  pub count_fits : (readers : List ℕ) (i : ℕ) (place : Place) (k : ℕ) → CountsFirst steps readers i → i < length steps → length steps < 2 ^ 63 → get_by (same_place place) numbers ≡ Some k → (k < length readers) × (get_or readers k 0 + 1 < 2 ^ 64)
  count_fits readers i place k counted below small is =
      let found = into place (Some k) is in
      let within = slice_get_within steps k found.0 found.1 in
      let count = counted.counts k found.0 found.1 in
      let most = count_by-le-length (reads found.0.destination) (take i steps) in
      let first = length-take i steps in
      let lengths = counted.lengths in
      (omega arith, omega arith)

  -- one more move is counted
  pub counts_more : (readers : List ℕ) (i : ℕ) (x : Pending) → CountsFirst steps readers i → i < length steps → x ≡ get_or steps i x → CountsFirst steps (raised (get_by (same_place x.source) numbers) readers) (i + 1)
  counts_more readers i x counted below read = record {
    lengths = length-raised (get_by (same_place x.source) numbers) readers ∙ counted.lengths;
    counts = λ k step at.
        let before = counted.counts k step at in
        let more = sum_by_more (λ (y : Pending). cond {A = ℕ} (reads step.destination y) 1 0) steps i x below in
        let waits : x.is_done ≡ false = ap (λ (y : Pending). y.is_done) read ∙ waiting i x below in
        let reading : reads step.destination (get_or steps i x) ≡ same_place x.source step.destination =
        ap (reads step.destination) (sym read) ∙ ap (λ (b : Bool). not b && same_place x.source step.destination) waits in
        elim (same_place-cases x.source step.destination) [
          | inl e ↦
              let one : cond {A = ℕ} (reads step.destination (get_or steps i x)) 1 0 ≡ 1 = ap (λ (b : Bool). cond {A = ℕ} b 1 0) (reading ∙ e.0) in
              let found : get_by (same_place x.source) numbers ≡ Some k = found_into x.source k step at (sym e.1) (get_by (same_place x.source) numbers) refl in
              let within : k < length readers = subst (λ (n : ℕ). k < n) (sym counted.lengths) (slice_get_within steps k step at) in
              let up : get_or (raised (get_by (same_place x.source) numbers) readers) k 0 ≡ get_or readers k 0 + 1 =
              ap (λ (o : Option ℕ). get_or (raised o readers) k 0) found ∙ get_or-set_same readers k (get_or readers k 0 + 1) 0 within in
              omega arith
          | inr e ↦
              let none : cond {A = ℕ} (reads step.destination (get_or steps i x)) 1 0 ≡ 0 = ap (λ (b : Bool). cond {A = ℕ} b 1 0) (reading ∙ e.0) in
              let other : get_by (same_place x.source) numbers ≢ Some k = λ is.
              let w = into x.source (Some k) is in
              e.1 (sym w.2 ∙ ap (λ (y : Pending). y.destination) (some_same w.0 step (sym w.1 ∙ at))) in
              let up = raised-other (get_by (same_place x.source) numbers) readers k other in
              omega arith
        ];
  }
    where
      found_into : (place : Place) (k : ℕ) (step : Pending) → IsAt steps k step → step.destination ≡ place → (o : Option ℕ) → get_by (same_place place) numbers ≡ o → get_by (same_place place) numbers ≡ Some k
      found_into place k step at to None is = absurd (into place None is k step at to)
      found_into place k step at to (Some w) is =
          let other = into place (Some w) is in
          is ∙ ap Some (single w k other.0 step other.1 at (other.2 ∙ sym to))

  pub counted_all : (readers : List ℕ) (n : ℕ) → length steps ≤ n → CountsFirst steps readers n → AreCounted readers steps
  counted_all readers n all counted = λ k step waits. counted.counts k step waits.0 ∙ ap (count_by (reads step.destination)) (take_all n steps all)
