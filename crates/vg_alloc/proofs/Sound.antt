-- What the steps of a scan keep.
use Rattle.std.proofs.Common.{◌≡◌, ℕ, suc, ◌+◌, ◌-◌, ◌<◌, ◌≤◌, List, [], ◌∷◌, ◌++◌, length, take, get_or, Some, None, sym, refl, ap, ◌∙◌, subst, arith}
use Rattle.std.specs.Prelude.{slice_get, count_by}
use Rattle.std.specs.List.Sorted.{IsNonDecreasingBy}
use Rattle.std.proofs.lemmas.Option.{none-some, slice_get_within, slice_get-get_or, get_or_from_slice_get}
use Rattle.std.proofs.lemmas.List.{length_push}
use Rattle.vg_goal.specs.Intervals.{Interval}
use Rattle.vg_goal.proofs.Lists.{at_push_before}
use Rattle.vg_alloc.specs.declared.arrival.Arrival.{Arrival}
use Rattle.vg_alloc.specs.declared.work.Work.{Work}
use Rattle.vg_alloc.specs.declared.scan.Scan.{Scan}
use Rattle.vg_alloc.specs.Allocation.{is_saved}
use Rattle.vg_alloc.specs.Ends.{end_of}
use Rattle.vg_alloc.specs.Active.{members, last_of, InsertsAt}
use Rattle.vg_alloc.specs.Scan.{IsAmong, Fits, IsBest}
use Rattle.vg_alloc.specs.Steps.{start_at, IsArranged, IsFitting, IsSound}
use Rattle.vg_alloc.proofs.Registers.{Fits-later, Fits-now, Fits-passed}
use Rattle.vg_alloc.proofs.Best.{IsBest-later, IsBest-kept, IsBest-passed, IsBest-replaced}
use Rattle.vg_alloc.proofs.Taking.{arrival, arrival-facts, seen-more, begun}

-- what is left of a list in order is in order
pub sorted_rest : (n : ℕ → ℕ) (x : ℕ) (xs : List ℕ) → IsNonDecreasingBy n (x ∷ xs) → IsNonDecreasingBy n xs
sorted_rest n x xs sorted i j d from below = sorted (suc i) (suc j) d (omega arith) (omega arith)

-- and so is what stands before its last
pub sorted_front : (n : ℕ → ℕ) (xs : List ℕ) (x : ℕ) → IsNonDecreasingBy n (xs ++ x ∷ []) → IsNonDecreasingBy n xs
sorted_front n xs x sorted i j d from below =
    let longer = length_push xs x in
    let up = sorted i j d from (omega arith) in
    let at_i : get_or (xs ++ x ∷ []) i d ≡ get_or xs i d = get_or_from_slice_get (xs ++ x ∷ []) i (get_or xs i d) d (at_push_before xs x i (get_or xs i d) (slice_get-get_or xs i d (omega arith))) in
    let at_j : get_or (xs ++ x ∷ []) j d ≡ get_or xs j d = get_or_from_slice_get (xs ++ x ∷ []) j (get_or xs j d) d (at_push_before xs x j (get_or xs j d) (slice_get-get_or xs j d below)) in
    let same_i = ap n at_i in
    let same_j = ap n at_j in
    omega arith

-- the first of a list in order is the least, and the last the greatest
pub first_least : (n : ℕ → ℕ) (xs : List ℕ) (first v : ℕ) → IsNonDecreasingBy n xs → slice_get xs 0 ≡ Some first → IsAmong xs v → n first ≤ n v
first_least n xs first v sorted at among =
    let up = sorted 0 among.0 0 (omega arith) (slice_get_within xs among.0 v among.1) in
    let a = ap n (get_or_from_slice_get xs 0 first 0 at) in
    let b = ap n (get_or_from_slice_get xs among.0 v 0 among.1) in
    omega arith

-- the last one is the greatest
pub last_greatest : (n : ℕ → ℕ) (xs : List ℕ) (last v : ℕ) → IsNonDecreasingBy n xs → last_of xs ≡ Some last → IsAmong xs v → n v ≤ n last
last_greatest n xs last v sorted at among =
    let within = slice_get_within xs among.0 v among.1 in
    let up = sorted among.0 (length xs - 1) 0 (omega arith) (omega arith) in
    let a = ap n (get_or_from_slice_get xs (length xs - 1) last 0 at) in
    let b = ap n (get_or_from_slice_get xs among.0 v 0 among.1) in
    omega arith

-- a list without a first element is empty
pub none_first : (xs : List ℕ) (v : ℕ) → slice_get xs 0 ≡ None → IsAmong xs v → ⊥
none_first [] v is among = none-some v among.1
none_first (x ∷ xs) v is among = none-some x (sym is)

-- and so is one without a last
pub none_last : (xs : List ℕ) (v : ℕ) → last_of xs ≡ None → IsAmong xs v → ⊥
none_last xs v is among =
    let within = slice_get_within xs among.0 v among.1 in
    let last : length xs - 1 < length xs = omega arith in
    none-some (get_or xs (length xs - 1) 0) (sym is ∙ slice_get-get_or xs (length xs - 1) 0 last)

module _ (work : Work) (number : ℕ) where
  -- time goes on
  pub IsSound-later : (past now : ℕ) (s : Scan) → past ≤ now → IsSound work number past past s → IsSound work number past now s
  IsSound-later past now s on sound = record {
    fitting = record {
      kept = sound.fitting.kept;
      fits = Fits-later work.intervals.now work.saved past past (take number work.arrivals.now) s.places.items (members s.active) s.free.items s.used sound.fitting.fits now on;
    };
    best = IsBest-later work.intervals.now work.saved past work.arrivals.now (take number work.arrivals.now) (count_by is_saved s.places.items) (members s.active) sound.best now on;
  }

  -- no active value has ended
  pub IsSound-now : (past now : ℕ) (s : Scan) → ((v : ℕ) → IsAmong (members s.active) v → now ≤ end_of work.intervals.now v) → IsSound work number past now s → IsSound work number now now s
  IsSound-now past now s left sound = record {
    fitting = record {
      kept = sound.fitting.kept;
      fits = Fits-now work.intervals.now work.saved past now (take number work.arrivals.now) s.places.items (members s.active) s.free.items s.used sound.fitting.fits left;
    };
    best = sound.best;
  }

module _ (work : Work) (number : ℕ) (below : number < length work.arrivals.now) (arranged : IsArranged work) (s : Scan) where
  abbrev now : ℕ
  now = start_at work number

  abbrev x : Arrival
  x = arrival work number below arranged

  ends : end_of work.intervals.now x.value ≡ x.last
  ends = ap (λ (i : Interval). i.1) (arrival-facts work number below arranged).1

  -- the value of the arrival got a register that was free
  pub IsSound-kept : (t : Scan) → IsSound work number now now s → IsFitting work (number + 1) now now t → count_by is_saved t.places.items ≡ count_by is_saved s.places.items + 1
      → InsertsAt (end_of work.intervals.now) x.value (members s.active) (members t.active) → IsSound work (number + 1) now now t
  IsSound-kept t sound fitting registers inserts = record {
    fitting = fitting;
    best =
        let best = IsBest-kept work.intervals.now work.saved now work.arrivals.now (take number work.arrivals.now) (count_by is_saved s.places.items) (members s.active) sound.best x (members t.active) ends inserts in
        subst (λ (n : ℕ). IsBest work.intervals.now work.saved now work.arrivals.now (take (number + 1) work.arrivals.now) n (members t.active)) (sym registers) (
        subst (λ (seen : List Arrival). IsBest work.intervals.now work.saved now work.arrivals.now seen (count_by is_saved s.places.items + 1) (members t.active)) (sym (seen-more work number below arranged)) best
        );
  }

  module _ (sound : IsSound work number now now s) (full : work.saved ≤ length (members s.active)) where
    left : (v : ℕ) → IsAmong (members s.active) v → now ≤ end_of work.intervals.now v
    left v among = (sound.fitting.fits.members v among).3

    -- it ends last, and got none
    pub IsSound-passed : ((v : ℕ) → IsAmong (members s.active) v → end_of work.intervals.now v ≤ x.last) → IsSound work (number + 1) now now s
    IsSound-passed last = record {
      fitting = record {
        kept = sound.fitting.kept;
        fits = subst (λ (seen : List Arrival). Fits work.intervals.now work.saved now now seen s.places.items (members s.active) s.free.items s.used) (sym (seen-more work number below arranged)) (
            Fits-passed work.intervals.now work.saved now (take number work.arrivals.now) s.places.items (members s.active) s.free.items s.used sound.fitting.fits x
            );
      };
      best =
          let best = IsBest-passed work.intervals.now work.saved now work.arrivals.now (take number work.arrivals.now) (count_by is_saved s.places.items) (members s.active) sound.best x refl (arrival-facts work number below arranged).2 full left (number + 1) (sym (seen-more work number below arranged)) (begun work number below arranged) last in
          subst (λ (seen : List Arrival). IsBest work.intervals.now work.saved now work.arrivals.now seen (count_by is_saved s.places.items) (members s.active)) (sym (seen-more work number below arranged)) best;
    }

    -- it got the register of the one that ended last
    pub IsSound-replaced : (mid t : Scan) (f : ℕ) → last_of (members s.active) ≡ Some f → x.last < end_of work.intervals.now f → members s.active ≡ members mid.active ++ f ∷ [] → count_by is_saved mid.places.items + 1 ≡ count_by is_saved s.places.items
        → IsFitting work (number + 1) now now t → count_by is_saved t.places.items ≡ count_by is_saved mid.places.items + 1 → InsertsAt (end_of work.intervals.now) x.value (members mid.active) (members t.active) → IsSound work (number + 1) now now t
    IsSound-replaced mid t f last sooner is fewer fitting more inserts = record {
      fitting = fitting;
      best =
          let best = IsBest-replaced work.intervals.now work.saved now work.arrivals.now (take number work.arrivals.now) (count_by is_saved s.places.items) (members s.active) sound.best x refl (arrival-facts work number below arranged).2 full left (number + 1) (sym (seen-more work number below arranged)) (begun work number below arranged)
          f (members mid.active) (members t.active) is (λ v among. last_greatest (end_of work.intervals.now) (members s.active) f v sound.fitting.fits.sorted last among) sooner ends inserts in
          let registers : count_by is_saved t.places.items ≡ count_by is_saved s.places.items = more ∙ fewer in
          subst (λ (n : ℕ). IsBest work.intervals.now work.saved now work.arrivals.now (take (number + 1) work.arrivals.now) n (members t.active)) (sym registers) (
          subst (λ (seen : List Arrival). IsBest work.intervals.now work.saved now work.arrivals.now seen (count_by is_saved s.places.items) (members t.active)) (sym (seen-more work number below arranged)) best
          );
    }
