-- When all moves that are left wait for others, they form rings, and nothing waits for the spare. So a ring can be opened.
use Rattle.std.proofs.Common.{◌≡◌, ◌≢◌, ℕ, zero, suc, ◌<◌, inl, inr, Bool, true, false, not, cond, filter, List, [], ◌∷◌, ◌++◌, map, Option, Some, None, sym, refl, ap, ◌∙◌, subst, arith, Contains, true≢false}
use Rattle.std.specs.Prelude.{slice_get, slice_index, count_by}
use Rattle.std.proofs.lemmas.List.{length-map, length_push}
use Rattle.std.proofs.lemmas.Option.{none-some}
use Rattle.std.proofs.lemmas.Bool.{and_parts}
use Rattle.vg_goal.specs.declared.place.Place.{Place}
use Rattle.vg_goal.specs.Places.{same_place}
use Rattle.vg_goal.proofs.Same.{same_place-true}
use Rattle.vg_copies.specs.declared.pending.Pending.{Pending}
use Rattle.vg_copies.specs.Copies.{Move}
use Rattle.vg_copies.specs.Schedule.{Waits, reads, AreSingle, Stands}
use Rattle.vg_goal.proofs.Lists.{Has, Differ, Has-filter, Has-from_filter, Has-from_count, Has-from_push, length-le_from_Differ, at_map, at_from_map, Contains-from_Has, Has-from_Contains, some_same}
use Rattle.vg_copies.proofs.Saved.{after_push-there, after_push-other}

abbrev pub is_left : Pending → Bool
is_left step = not step.is_done

not_true : (b : Bool) → not b ≡ true → b ≡ false
not_true true h = absurd (true≢false (sym h))
not_true false h = refl

-- a move that waits and reads the place
pub reads-parts : (place : Place) (step : Pending) → reads place step ≡ true → (step.is_done ≡ false) × (step.source ≡ place)
reads-parts place step test =
    let parts = and_parts (not step.is_done) (same_place step.source place) test in
    (not_true step.is_done parts.0, same_place-true step.source place parts.1)

-- the destinations and the sources of the moves that wait
abbrev destinations : List Pending → List Place
destinations steps = map (λ (s : Pending). s.destination) (filter is_left steps)

abbrev sources : List Pending → List Place
sources steps = map (λ (s : Pending). s.source) (filter is_left steps)

Has-destinations : (steps : List Pending) (place : Place) → Has (destinations steps) place → (k : ℕ) × (step : Pending) × Waits steps k step × (step.destination ≡ place)
Has-destinations steps place has =
    let step = at_from_map (λ (s : Pending). s.destination) (filter is_left steps) has.0 place has.1 in
    let at = Has-from_filter is_left steps step.0 (has.0, step.1) in
    (at.0.0, step.0, (at.0.1, not_true step.0.is_done at.1), step.2)

Has-sources : (steps : List Pending) (k : ℕ) (step : Pending) → Waits steps k step → Has (sources steps) step.source
Has-sources steps k step waits =
    let found = Has-filter is_left steps step (k, waits.0) (ap not waits.1) in
    (found.0, at_map (λ (s : Pending). s.source) (filter is_left steps) found.0 step found.1)

-- moves with one destination each differ in their destinations
differ_from_single : (steps : List Pending) → AreSingle steps → Differ (destinations steps)
differ_from_single [] single = tt
differ_from_single (x ∷ xs) single = by (is_left x) refl (differ_from_single xs (λ j k a b at_a at_b same.
    let equal : suc j ≡ suc k = single (suc j) (suc k) a b at_a at_b same in omega arith))
  where
    by : (b : Bool) → is_left x ≡ b → Differ (destinations xs) → Differ (destinations (x ∷ xs))
    by true e rest =
        let new : Has (destinations xs) x.destination → ⊥ = λ has.
        let other = Has-destinations xs x.destination has in
        let equal : 0 ≡ suc other.0 = single 0 (suc other.0) x other.1 refl other.2.0 (sym other.3) in
        omega arith in
        subst (λ (b : Bool). Differ (map (λ (s : Pending). s.destination) (cond b (x ∷ filter is_left xs) (filter is_left xs)))) (sym e) (new, rest)
    by false e rest = subst (λ (b : Bool). Differ (map (λ (s : Pending). s.destination) (cond b (x ∷ filter is_left xs) (filter is_left xs)))) (sym e) rest

module _ (spare : Place) (steps : List Pending) (readers : List ℕ) (saved : Option Place) (copies : List Move) (stands : Stands spare None steps readers saved copies)
    (blocked : (k : ℕ) (step : Pending) → Waits steps k step → 0 < slice_index readers k) where
  -- a move that waits for the one at hand
  waiting_for : (k : ℕ) (step : Pending) → Waits steps k step → (j : ℕ) × (other : Pending) × Waits steps j other × (other.source ≡ step.destination)
  waiting_for k step waits =
      let some : 0 < count_by (reads step.destination) steps = subst (λ (n : ℕ). 0 < n) (stands.counted k step waits) (blocked k step waits) in
      let found = Has-from_count (reads step.destination) steps some in
      let parts = reads-parts step.destination found.0 found.2 in
      (found.1.0, found.0, (found.1.1, parts.0), parts.1)

  -- each destination of those that are left is a source of one of them
  destination_read : (place : Place) → Has (destinations steps) place → Has (sources steps) place
  destination_read place has =
      let step = Has-destinations steps place has in
      let other = waiting_for step.0 step.1 step.2 in
      subst (Has (sources steps)) (other.3 ∙ step.3) (Has-sources steps other.0 other.1 other.2)

  -- nothing waits for the spare
  pub none-saved : (k : ℕ) (step : Pending) → Waits steps k step → saved ≢ Some step.source
  none-saved k step waits is =
      let here = Has-sources steps k step waits in
      let away : Has (destinations steps) step.source → ⊥ = λ has.
      let other = Has-destinations steps step.source has in
      stands.gone other.0 other.1 (other.2, λ (e : None ≡ Some other.0). none-some other.0 e) (is ∙ ap Some (sym other.3)) in
      let within : (place : Place) → Has (step.source ∷ destinations steps) place → Has (sources steps) place = each here in
      let more = length-le_from_Differ (step.source ∷ destinations steps) (sources steps) (away, differ_from_single steps stands.single) within in
      let a = length-map (filter is_left steps) (λ (s : Pending). s.destination) in
      let b = length-map (filter is_left steps) (λ (s : Pending). s.source) in
      omega arith
    where
      each : Has (sources steps) step.source → (place : Place) → Has (step.source ∷ destinations steps) place → Has (sources steps) place
      each here place (zero, at) = subst (Has (sources steps)) (some_same step.source place at) here
      each here place (suc n, at) = destination_read place (n, at)

  -- A ring is opened at a move: what its destination holds goes to the spare.
  module _ (i : ℕ) (m : Pending) (here : Waits steps i m) where
    abbrev copy : Move
    copy = (m.destination, spare)

    pub Stands-opened : Stands spare (Some i) steps readers (Some m.destination) (copies ++ copy ∷ [])
    Stands-opened =
        let longer = length_push copies copy in
        let held = stands.settled (λ k step waits. none-saved k step waits.0) in
        record {
          lengths = stands.lengths;
          apart = stands.apart;
          single = stands.single;
          done = λ k step at done cells. after_push-other copies copy cells step.destination (stands.apart k step at).1 ∙ stands.done k step at done cells;
          kept = λ cells place other untouched. after_push-other copies copy cells place other ∙ stands.kept cells place other untouched;
          unread = λ j k a b waits at done same. absurd (none-saved j a waits (stands.unread j k a b waits at done same));
          aside = λ place is cells.
              after_push-there copies copy cells spare refl
              ∙ stands.kept cells m.destination (stands.apart i m here.0).1 (λ k step at done same. true≢false (sym done ∙
              ap (λ (s : Pending). s.is_done) (some_same step m (sym at ∙ ap (slice_get steps) (stands.single k i step m at here.0 same) ∙ here.0)) ∙ here.1))
              ∙ ap cells (some_same m.destination place is);
          gone = λ k step waits is. waits.1 (ap Some (stands.single i k m step here.0 waits.0.0 (some_same m.destination step.destination is)));
          counted = stands.counted;
          ends = λ c among. elim (Has-from_push copies copy c (Has-from_Contains (copies ++ copy ∷ []) c among)) [
            | inl old ↦ stands.ends c (Contains-from_Has copies c old)
            | inr same ↦ (
              inr (
                  let other = waiting_for i m here in
                  let reads_it : other.1.source ≡ c.0 = other.3 ∙ ap (λ (x : Move). x.0) (sym same) in
                  subst (Contains (map (λ (s : Pending). s.source) steps)) reads_it (
                  Contains-from_Has (map (λ (s : Pending). s.source) steps) other.1.source (other.0, at_map (λ (s : Pending). s.source) steps other.0 other.1 other.2.0)
                  )),
              inl (ap (λ (x : Move). x.1) same),
            )
          ];
          within = omega arith;
          settled = λ none.
              let other = waiting_for i m here in
              absurd (none other.0 other.1 (
                other.2,
                λ same.
                    (stands.apart i m here.0).2 (
                    ap (λ (s : Pending). s.source) (some_same m other.1 (sym here.0 ∙ ap (slice_get steps) (some_same i other.0 same) ∙ other.2.0)) ∙ other.3
                    ),
              ) (ap Some (sym other.3)));
        }
