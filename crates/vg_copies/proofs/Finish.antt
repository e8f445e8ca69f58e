-- A move is done: its copy is made, and what waited for it waits for one move less.
use Rattle.std.proofs.Common.{◌≡◌, ◌≢◌, ℕ, zero, suc, ◌+◌, ◌-◌, ◌<◌, ◌⊎◌, inl, inr, Bool, true, false, cond, not, ◌&&◌, List, [], ◌∷◌, ◌++◌, length, map, set, get_or, Option, Some, None, sym, refl, ap, ◌∙◌, subst, arith, true≢false, Contains, if◌then◌else◌}
use Rattle.std.specs.Prelude.{slice_get, count_by}
use Rattle.std.proofs.lemmas.List.{length-set, length_push, map-set}
use Rattle.std.proofs.lemmas.List.Sums.{sum_by-set}
use Rattle.std.proofs.lemmas.Option.{slice_get_within, get_or_from_slice_get, none-some}
use Rattle.vg_goal.specs.declared.place.Place.{Place}
use Rattle.vg_goal.specs.Places.{same_place}
use Rattle.vg_goal.proofs.Same.{same_place-cases, same_place-refl}
use Rattle.vg_copies.specs.declared.pending.Pending.{Pending}
use Rattle.vg_copies.specs.Copies.{Move, Cells, after}
use Rattle.vg_copies.specs.Schedule.{IsAt, Waits, WaitsBehind, reads, finished, holder, lowered, AreSingle, AreCounted, Stands}
use Rattle.vg_goal.proofs.Lists.{Has, at_set, at_set_other, at_set_same, at_map, Contains-from_Has, Has-from_Contains, Has-from_push, some_same}
use Rattle.vg_copies.proofs.Saved.{is_saved-cases, after_push-there, after_push-other, length-lowered, lowered-other, lowered-same}

abbrev pub done_step : Pending → Pending
done_step m = record m { is_done = true }

-- writing a move back done leaves the ends of all
set_same : {X : Type 0} (xs : List X) (i : ℕ) (x : X) → slice_get xs i ≡ Some x → set xs i x ≡ xs
set_same [] i x h = refl
set_same (y ∷ ys) zero x h = ap (λ z. z ∷ ys) (let same : x ≡ y = cc in same)
set_same (y ∷ ys) (suc i) x h = ap (λ zs. y ∷ zs) (set_same ys i x h)

pub map-done : {Y : Type 0} (f : Pending → Y) (steps : List Pending) (i : ℕ) (m : Pending) → f (done_step m) ≡ f m → IsAt steps i m → map f (set steps i (done_step m)) ≡ map f steps
map-done f steps i m same here = map-set f steps i (done_step m) ∙ ap (λ y. set (map f steps) i y) same ∙ set_same (map f steps) i (f m) (at_map f steps i m here)

count_set : (p : Pending → Bool) (steps : List Pending) (i : ℕ) (m y : Pending) → IsAt steps i m → count_by p (set steps i y) + cond (p m) 1 0 ≡ count_by p steps + cond (p y) 1 0
count_set p steps i m y here =
    let change = sum_by-set (λ (x : Pending). cond (p x) 1 0) steps i y m (slice_get_within steps i m here) in
    let read : get_or steps i m ≡ m = get_or_from_slice_get steps i m m here in
    ap (λ (x : Pending). count_by p (set steps i y) + cond (p x) 1 0) (sym read) ∙ change

module _ (steps : List Pending) (i : ℕ) (m : Pending) (here : Waits steps i m) where
  -- what waits then waited before, and is another move
  pub still_waits : (k : ℕ) (step : Pending) → Waits (set steps i (done_step m)) k step → (k ≢ i) × Waits steps k step
  still_waits k step waits = elim (at_set steps i k (done_step m) step waits.0) [
    | inl e ↦ absurd (true≢false (sym (ap (λ (s : Pending). s.is_done) e.1) ∙ waits.1))
    | inr e ↦ (e.0, (e.1, waits.1))
  ]

  -- one more is done
  pub count-finished : count_by finished (set steps i (done_step m)) ≡ count_by finished steps + 1
  count-finished =
      let change = count_set finished steps i m (done_step m) here.0 in
      let before : cond {A = ℕ} (finished m) 1 0 ≡ 0 = ap (λ (b : Bool). cond b 1 0) here.1 in
      omega arith

  -- one less waits to read the source
  pub count-reads_source : (place : Place) → place ≡ m.source → count_by (reads place) (set steps i (done_step m)) + 1 ≡ count_by (reads place) steps
  count-reads_source place same =
      let change = count_set (reads place) steps i m (done_step m) here.0 in
      let before : reads place m ≡ true =
      ap (λ (b : Bool). not b && same_place m.source place) here.1 ∙ ap (same_place m.source) same ∙ same_place-refl m.source in
      let counted : cond {A = ℕ} (reads place m) 1 0 ≡ 1 = ap (λ (b : Bool). cond b 1 0) before in
      omega arith

  pub count-reads_other : (place : Place) → place ≢ m.source → count_by (reads place) (set steps i (done_step m)) ≡ count_by (reads place) steps
  count-reads_other place other =
      let change = count_set (reads place) steps i m (done_step m) here.0 in
      let before : reads place m ≡ false =
      ap (λ (b : Bool). not b && same_place m.source place) here.1
      ∙ elim (same_place-cases m.source place) as (λ _. same_place m.source place ≡ false) [ inl e ↦ absurd (other (sym e.1)) | inr e ↦ e.0 ] in
      let counted : cond {A = ℕ} (reads place m) 1 0 ≡ 0 = ap (λ (b : Bool). cond b 1 0) before in
      omega arith

module _ (spare : Place) (i : ℕ) (steps : List Pending) (readers : List ℕ) (saved : Option Place) (copies : List Move) (m : Pending)
    (here : Waits steps i m) (stands : Stands spare (Some i) steps readers saved copies)
    (free : (k : ℕ) (other : Pending) → Waits steps k other → other.source ≡ m.destination → saved ≡ Some m.destination) where
  abbrev steps_then : List Pending
  steps_then = set steps i (done_step m)

  abbrev copy : Move
  copy = (holder spare saved m.source, m.destination)

  abbrev copies_then : List Move
  copies_then = copies ++ copy ∷ []

  -- the copy reads what the source held first
  reads_first : (cells : Cells) → after copies cells copy.0 ≡ cells m.source
  reads_first cells = elim (is_saved-cases saved m.source) as (λ _. after copies cells copy.0 ≡ cells m.source) [
    | inl e ↦ ap (λ (b : Bool). after copies cells (if b then spare else m.source)) e.0 ∙ stands.aside m.source e.1 cells
    | inr e ↦
        ap (λ (b : Bool). after copies cells (if b then spare else m.source)) e.0
        ∙ stands.kept cells m.source (stands.apart i m here.0).0 (λ k step at done same. e.1 (stands.unread i k m step here at done (sym same)))
  ]

  done_then : (k : ℕ) (step : Pending) → IsAt steps_then k step → step.is_done ≡ true → (cells : Cells) → after copies_then cells step.destination ≡ cells step.source
  done_then k step at done cells = elim (at_set steps i k (done_step m) step at) [
    | inl e ↦
        after_push-there copies copy cells step.destination (ap (λ (s : Pending). s.destination) e.1)
        ∙ reads_first cells
        ∙ ap (λ (s : Pending). cells s.source) (sym e.1)
    | inr e ↦
        after_push-other copies copy cells step.destination (λ same. e.0 (stands.single k i step m e.1 here.0 same))
        ∙ stands.done k step e.1 done cells
  ]

  kept_then : (cells : Cells) (place : Place) → place ≢ spare → ((k : ℕ) (step : Pending) → IsAt steps_then k step → step.is_done ≡ true → step.destination ≢ place) → after copies_then cells place ≡ cells place
  kept_then cells place other untouched =
      after_push-other copies copy cells place (λ same. untouched i (done_step m) (at_set_same steps i m (done_step m) here.0) refl (sym same))
      ∙ stands.kept cells place other (λ k step at done. untouched k step (
      at_set_other steps i k (done_step m) step (λ same. true≢false (sym done ∙ ap (λ (s : Pending). s.is_done) (some_same step m (sym at ∙ ap (slice_get steps) same ∙ here.0)) ∙ here.1)) at
      ) done)

  unread_then : (j k : ℕ) (a b : Pending) → Waits steps_then j a → IsAt steps_then k b → b.is_done ≡ true → a.source ≡ b.destination → saved ≡ Some a.source
  unread_then j k a b waits at done same =
      let waited = still_waits steps i m here j a waits in
      elim (at_set steps i k (done_step m) b at) [
        | inl e ↦
            let read : a.source ≡ m.destination = same ∙ ap (λ (s : Pending). s.destination) e.1 in
            free j a waited.1 read ∙ ap Some (sym read)
        | inr e ↦ stands.unread j k a b waited.1 e.1 done same
      ]

  aside_then : (place : Place) → saved ≡ Some place → (cells : Cells) → after copies_then cells spare ≡ cells place
  aside_then place is cells =
      after_push-other copies copy cells spare (λ same. (stands.apart i m here.0).1 (sym same))
      ∙ stands.aside place is cells

  gone_then : (k : ℕ) (step : Pending) → WaitsBehind None steps_then k step → saved ≢ Some step.destination
  gone_then k step waits =
      let waited = still_waits steps i m here k step waits.0 in
      stands.gone k step (waited.1, λ same. waited.0 (let equal : i ≡ k = cc in sym equal))

  apart_then : (k : ℕ) (step : Pending) → IsAt steps_then k step → (step.source ≢ spare) × (step.destination ≢ spare) × (step.source ≢ step.destination)
  apart_then k step at = elim (at_set steps i k (done_step m) step at) [
    | inl e ↦ subst (λ (s : Pending). (s.source ≢ spare) × (s.destination ≢ spare) × (s.source ≢ s.destination)) (sym e.1) (stands.apart i m here.0)
    | inr e ↦ stands.apart k step e.1
  ]

  -- which move of the list before it is, by its destination
  before : (k : ℕ) (step : Pending) → IsAt steps_then k step → (old : Pending) × IsAt steps k old × (old.destination ≡ step.destination)
  before k step at = elim (at_set steps i k (done_step m) step at) [
    | inl e ↦ (m, subst (λ (n : ℕ). IsAt steps n m) (sym e.0) here.0, ap (λ (s : Pending). s.destination) (sym e.1))
    | inr e ↦ (step, e.1, refl)
  ]

  single_then : AreSingle steps_then
  single_then j k a b at_a at_b same =
      let x = before j a at_a in
      let y = before k b at_b in
      stands.single j k x.0 y.0 x.1 y.1 (x.2 ∙ same ∙ sym y.2)

  ends_then : (c : Move) → Contains copies_then c → ((c.0 ≡ spare) ⊎ Contains (map (λ (s : Pending). s.source) steps_then) c.0) × ((c.1 ≡ spare) ⊎ Contains (map (λ (s : Pending). s.destination) steps_then) c.1)
  ends_then c among =
      let sources = map-done (λ (s : Pending). s.source) steps i m refl here.0 in
      let destinations = map-done (λ (s : Pending). s.destination) steps i m refl here.0 in
      let Ends : List Place → List Place → Type 0 = λ xs ys. ((c.0 ≡ spare) ⊎ Contains xs c.0) × ((c.1 ≡ spare) ⊎ Contains ys c.1) in
      subst (λ (xs : List Place). Ends xs (map (λ (s : Pending). s.destination) steps_then)) (sym sources) (
      subst (λ (ys : List Place). Ends (map (λ (s : Pending). s.source) steps) ys) (sym destinations) (
      ends_of_copy c (Has-from_Contains copies_then c among)
      ))
    where
      source_there : Contains (map (λ (s : Pending). s.source) steps) m.source
      source_there = Contains-from_Has (map (λ (s : Pending). s.source) steps) m.source (i, at_map (λ (s : Pending). s.source) steps i m here.0)

      destination_there : Contains (map (λ (s : Pending). s.destination) steps) m.destination
      destination_there = Contains-from_Has (map (λ (s : Pending). s.destination) steps) m.destination (i, at_map (λ (s : Pending). s.destination) steps i m here.0)

      ends_of_copy : (c : Move) → Has copies_then c → ((c.0 ≡ spare) ⊎ Contains (map (λ (s : Pending). s.source) steps) c.0) × ((c.1 ≡ spare) ⊎ Contains (map (λ (s : Pending). s.destination) steps) c.1)
      ends_of_copy c has = elim (Has-from_push copies copy c has) [
        | inl old ↦ stands.ends c (Contains-from_Has copies c old)
        | inr same ↦ (
          elim (is_saved-cases saved m.source) [
            | inl e ↦ inl (ap (λ (x : Move). x.0) same ∙ ap (λ (b : Bool). if b then spare else m.source) e.0)
            | inr e ↦ inr (subst (Contains (map (λ (s : Pending). s.source) steps)) (sym (ap (λ (x : Move). x.0) same ∙ ap (λ (b : Bool). if b then spare else m.source) e.0)) source_there)
          ],
          inr (subst (Contains (map (λ (s : Pending). s.destination) steps)) (sym (ap (λ (x : Move). x.1) same)) destination_there),
        )
      ]

  module _ (next : Option ℕ)
      (writes : (k : ℕ) → next ≡ Some k → (saved ≢ Some m.source) × ((step : Pending) × IsAt steps k step × (step.destination ≡ m.source)))
      (writes_none : next ≡ None → (saved ≡ Some m.source) ⊎ ((k : ℕ) (step : Pending) → IsAt steps k step → step.destination ≢ m.source)) where
    counted_then : AreCounted (lowered next readers) steps_then
    counted_then k step waits =
        let waited = still_waits steps i m here k step waits in
        let old = stands.counted k step waited.1 in
        elim (same_place-cases step.destination m.source) [
          | inl e ↦ by_next next refl k step waited e.1 old
          | inr e ↦
              lowered-other next readers k (λ is.
              let w = writes k is in
              e.1 (ap (λ (s : Pending). s.destination) (some_same step w.1.0 (sym waited.1.0 ∙ w.1.1)) ∙ w.1.2))
              ∙ old
              ∙ sym (count-reads_other steps i m here step.destination e.1)
        ]
      where
        by_next : (o : Option ℕ) → next ≡ o → (k : ℕ) (step : Pending) → (k ≢ i) × Waits steps k step → step.destination ≡ m.source → get_or readers k 0 ≡ count_by (reads step.destination) steps → get_or (lowered next readers) k 0 ≡ count_by (reads step.destination) steps_then
        by_next None is k step waited same old = elim (writes_none is) [
          | inl read ↦ absurd (stands.gone k step (waited.1, λ e. waited.0 (let equal : i ≡ k = cc in sym equal)) (read ∙ ap Some (sym same)))
          | inr nowhere ↦ absurd (nowhere k step waited.1.0 same)
        ]
        by_next (Some w) is k step waited same old =
            let found = writes w is in
            let equal : w ≡ k = stands.single w k found.1.0 step found.1.1 waited.1.0 (found.1.2 ∙ sym same) in
            let below : k < length readers = subst (λ (n : ℕ). k < n) (sym stands.lengths) (slice_get_within steps k step waited.1.0) in
            let less = count-reads_source steps i m here step.destination same in
            let low : get_or (lowered next readers) k 0 ≡ get_or readers k 0 - 1 = ap (λ (o : Option ℕ). get_or (lowered o readers) k 0) (is ∙ ap Some equal) ∙ lowered-same k readers below in
            omega arith

    -- the law
    pub Stands-finished : Stands spare None steps_then (lowered next readers) saved copies_then
    Stands-finished =
        let more = count-finished steps i m here in
        let longer = length_push copies copy in
        record {
          lengths = length-lowered next readers ∙ stands.lengths ∙ sym (length-set steps i (done_step m));
          apart = apart_then;
          single = single_then;
          done = done_then;
          kept = kept_then;
          unread = unread_then;
          aside = aside_then;
          gone = gone_then;
          counted = counted_then;
          ends = ends_then;
          within = let old = stands.within in omega arith;
          settled = λ none.
              let old = stands.settled (λ k step waits. none k step (
                (
                  at_set_other steps i k (done_step m) step (λ same. waits.1 (ap Some (sym same))) waits.0.0,
                  waits.0.1,
                ),
                λ (e : None ≡ Some k). none-some k e,
              )) in
              omega arith;
        }
