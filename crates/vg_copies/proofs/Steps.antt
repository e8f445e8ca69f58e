-- A move is done: what the schedule is then.
use Rattle.std.proofs.Common.{◌≡◌, ◌≢◌, ℕ, ◌+◌, ◌<◌, inl, inr, Bool, true, false, cond, not, ◌&&◌, List, [], ◌∷◌, ◌++◌, length, map, set, get_or, Option, Some, None, sym, refl, ap, ◌∙◌, subst, arith}
use Rattle.std.specs.Prelude.{slice_get, slice_index, count_by, MatchOption}
use Rattle.std.proofs.lemmas.Option.{slice_get_within, get_or_from_slice_get}
use Rattle.std.proofs.lemmas.List.Sums.{get_or-le-sum_by}
use Rattle.std.proofs.lemmas.Bool.Decides.{eqb_tells}
use Rattle.indexmap.specs.IndexMap.{IndexMap, get_by}
use Rattle.vg_goal.specs.declared.place.Place.{Place}
use Rattle.vg_goal.specs.Places.{same_place}
use Rattle.vg_goal.proofs.Same.{same_place-refl}
use Rattle.vg_copies.specs.declared.pending.Pending.{Pending}
use Rattle.vg_copies.specs.declared.schedule.Schedule.{Schedule}
use Rattle.vg_copies.specs.Schedule.{IsAt, Waits, reads, finished, holder, writer, lowered, IsNumbered, IsSound, IsFree, Proceeds, NextWaits, ends_of}
use Rattle.vg_goal.proofs.Lists.{at_set, at_set_other, at_set_same, some_same}
use Rattle.vg_copies.proofs.Saved.{writer-is, writer-none, lowered-other}
use Rattle.vg_copies.proofs.Finish.{done_step, map-done, still_waits, count-finished, Stands-finished}

-- what stands at a place that was read
pub at_read : {X : Type 0} (xs : List X) (i : ℕ) (x y : X) → x ≡ get_or xs i x → slice_get xs i ≡ Some y → x ≡ y
at_read xs i x y is at = is ∙ get_or_from_slice_get xs i y x at

-- the moves into places stay
numbered_done : {S : Type 0} (numbers : IndexMap Place ℕ S) (steps : List Pending) (i : ℕ) (m : Pending) → IsAt steps i m → IsNumbered numbers steps → IsNumbered numbers (set steps i (done_step m))
numbered_done numbers steps i m here numbered = λ place. by place (get_by (same_place place) numbers) (numbered place)
  where
    by : (place : Place) (o : Option ℕ) → MatchOption o ((k : ℕ) (step : Pending) → IsAt steps k step → step.destination ≢ place) (λ k. (step : Pending) × IsAt steps k step × (step.destination ≡ place))
        → MatchOption o ((k : ℕ) (step : Pending) → IsAt (set steps i (done_step m)) k step → step.destination ≢ place) (λ k. (step : Pending) × IsAt (set steps i (done_step m)) k step × (step.destination ≡ place))
    by place None nowhere = λ k step at. elim (at_set steps i k (done_step m) step at) [
      | inl e ↦ λ same. nowhere i m here (ap (λ (s : Pending). s.destination) (sym e.1) ∙ same)
      | inr e ↦ nowhere k step e.1
    ]
    by place (Some k) found = elim (eqb_tells k i) [
      | inl (_, same) ↦ (
        done_step m,
        ap (slice_get (set steps i (done_step m))) same ∙ at_set_same steps i m (done_step m) here,
        ap (λ (s : Pending). s.destination) (some_same m found.0 (sym here ∙ ap (slice_get steps) (sym same) ∙ found.1)) ∙ found.2,
      )
      | inr (_, differ) ↦ (found.0, at_set_other steps i k (done_step m) found.0 differ found.1, found.2)
    ]

-- What doing the move m of this number makes of a schedule. `next` is the move that waited for it.
pub record Finishes (s t : Schedule) (i : ℕ) (m : Pending) (next : Option ℕ) : Type 0 where
  pub spare : t.spare ≡ s.spare
  pub moves : t.moves.items ≡ set s.moves.items i (done_step m)
  pub numbers : t.numbers ≡ s.numbers
  pub readers : t.readers.items ≡ lowered next s.readers.items
  pub saved : t.saved ≡ s.saved
  pub copies : t.copies.items ≡ s.copies.items ++ (holder s.spare s.saved m.source, m.destination) ∷ []
  pub found : next ≡ writer s.saved s.numbers m.source

module _ (s : Schedule) (i : ℕ) (sound : IsSound (Some i) s) (free : IsFree s i) where
  -- the move into the place that is read waits, where it is one of them
  writer_waits : (k : ℕ) → writer s.saved s.numbers free.step.source ≡ Some k → (step : Pending) × Waits s.moves.items k step × (step.destination ≡ free.step.source)
  writer_waits k is =
      let w = writer-is s.saved s.numbers s.moves.items sound.numbered free.step.source k is in
      (w.1.0, (w.1.1, waiting w.0 w.1.0 w.1.1 w.1.2 w.1.0.is_done refl), w.1.2)
    where
      waiting : (s.saved ≢ Some free.step.source) → (step : Pending) → IsAt s.moves.items k step → step.destination ≡ free.step.source → (b : Bool) → step.is_done ≡ b → step.is_done ≡ false
      waiting apart step at into false e = e
      waiting apart step at into true e = absurd (apart (sound.stands.unread i k free.step step free.waits at e (sym into)))

  -- some move waits to read it
  pub release_counts : (k : ℕ) → writer s.saved s.numbers free.step.source ≡ Some k → (k < length s.readers.items) × (0 < slice_index s.readers.items k)
  release_counts k is =
      let w = writer_waits k is in
      let steps = s.moves.items in
      let below = slice_get_within steps k w.0 w.1.0 in
      let counted = sound.stands.counted k w.0 w.1 in
      let here = slice_get_within steps i free.step free.waits.0 in
      let least = get_or-le-sum_by (λ (x : Pending). cond {A = ℕ} (reads w.0.destination x) 1 0) steps i free.step here in
      let at : get_or steps i free.step ≡ free.step = get_or_from_slice_get steps i free.step free.step free.waits.0 in
      let test : reads w.0.destination free.step ≡ true =
      ap (λ (b : Bool). not b && same_place free.step.source w.0.destination) free.waits.1 ∙ ap (same_place free.step.source) w.2 ∙ same_place-refl free.step.source in
      let one : cond {A = ℕ} (reads w.0.destination (get_or steps i free.step)) 1 0 ≡ 1 = ap (λ (x : Pending). cond {A = ℕ} (reads w.0.destination x) 1 0) at ∙ ap (λ (b : Bool). cond {A = ℕ} b 1 0) test in
      let lengths = sound.stands.lengths in
      (omega arith, omega arith)

module _ (s t : Schedule) (i : ℕ) (next : Option ℕ) (sound : IsSound (Some i) s) (free : IsFree s i) (made : Finishes s t i free.step next) where
  pub IsSound-finished : IsSound None t
  IsSound-finished =
      let writes = λ (k : ℕ) (is : next ≡ Some k). writer-is s.saved s.numbers s.moves.items sound.numbered free.step.source k (sym made.found ∙ is) in
      let writes_none = λ (is : next ≡ None). writer-none s.saved s.numbers s.moves.items sound.numbered free.step.source (sym made.found ∙ is) in
      let stands = Stands-finished s.spare i s.moves.items s.readers.items s.saved s.copies.items free.step free.waits sound.stands free.free next writes writes_none in
      record {
        stands = rw (made.spare, made.moves, made.readers, made.saved, made.copies) stands;
        numbered = rw (made.numbers, made.moves) (numbered_done s.numbers s.moves.items i free.step free.waits.0 sound.numbered);
      }

  pub NextWaits-finished : NextWaits t next
  NextWaits-finished = λ k is.
      let w = writer_waits s i sound free k (sym made.found ∙ is) in
      let other : k ≢ i = λ same.
      (sound.stands.apart i free.step free.waits.0).2 (
      sym w.2 ∙ ap (λ (x : Pending). x.destination) (some_same w.0 free.step (sym w.1.0 ∙ ap (slice_get s.moves.items) same ∙ free.waits.0))
      ) in
      (w.0, (ap (λ (xs : List Pending). slice_get xs k) made.moves ∙ at_set_other s.moves.items i k (done_step free.step) w.0 other w.1.0, w.1.1))

  pub Proceeds-finished : Proceeds s t i next
  Proceeds-finished =
      let steps = s.moves.items in
      let more = count-finished steps i free.step free.waits in
      let counted : count_by finished t.moves.items ≡ count_by finished steps + 1 = ap (count_by finished) made.moves ∙ more in
      let at_old = λ (k : ℕ) (step : Pending) (at : IsAt t.moves.items k step). ap (λ (xs : List Pending). slice_get xs k) (sym made.moves) ∙ at in
      record {
        spare = made.spare;
        moves = ap (map ends_of) made.moves ∙ map-done ends_of steps i free.step refl free.waits.0;
        first = λ step at. ap (λ (x : Pending). x.is_done) (some_same step (done_step free.step) (sym (at_old i step at) ∙ at_set_same steps i free.step (done_step free.step) free.waits.0));
        waits = λ k step waits. (still_waits steps i free.step free.waits k step (at_old k step waits.0, waits.1)).1;
        blocked = λ k step waits other before. subst (λ (n : ℕ). 0 < n) (sym (ap (λ (xs : List ℕ). get_or xs k 0) made.readers ∙ lowered-other next s.readers.items k other)) before;
        fewer = omega arith;
      }
