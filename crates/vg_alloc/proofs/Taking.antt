-- An arrival, and the register that it takes.
use Rattle.std.proofs.Common.{◌≡◌, ◌≢◌, ℕ, zero, suc, ◌+◌, ◌-◌, ◌<◌, ◌≤◌, inl, inr, cond, List, [], ◌∷◌, ◌++◌, length, take, set, get_or, Some, sym, ap, ◌∙◌, arith}
use Rattle.std.specs.Prelude.{slice_get, count_by}
use Rattle.std.proofs.lemmas.Option.{none-some, slice_get_within, slice_get-get_or, get_or_from_slice_get}
use Rattle.std.proofs.lemmas.List.{take_more, length_push}
use Rattle.std.proofs.lemmas.List.Sums.{sum_by-set}
use Rattle.vg_goal.specs.declared.place.Place.{Place}
use Rattle.vg_goal.specs.declared.place.Place.TheVariants.{Saved, Slot}
use Rattle.vg_goal.specs.Intervals.{Interval, interval_at}
use Rattle.vg_goal.proofs.Lists.{at_push_before, at_push_end}
use Rattle.vg_alloc.specs.declared.arrival.Arrival.{Arrival}
use Rattle.vg_alloc.specs.declared.work.Work.{Work}
use Rattle.vg_alloc.specs.Allocation.{place_at, is_saved}
use Rattle.vg_alloc.specs.Ends.{end_of}
use Rattle.vg_alloc.specs.Scan.{interval_of, IsAmong, Fits}
use Rattle.vg_alloc.specs.Steps.{start_at, IsArranged, Takes}
use Rattle.vg_alloc.proofs.Registers.{slot-saved}

-- the first of a list stand where they did
at_take : {X : Type 0} (n : ℕ) (xs : List X) (k : ℕ) (x : X) → slice_get (take n xs) k ≡ Some x → (k < n) × (slice_get xs k ≡ Some x)
at_take zero xs k x is = absurd (none-some x is)
at_take (suc n) [] k x is = absurd (none-some x is)
at_take (suc n) (y ∷ ys) zero x is = (omega arith, is)
at_take (suc n) (y ∷ ys) (suc k) x is = let rest = at_take n ys k x is in ((let l = rest.0 in omega arith), rest.1)

-- what stands for an arrival past the end
abbrev pub none : Arrival
none = record { first = 0; last = 0; value = 0 }

module _ (work : Work) (number : ℕ) (below : number < length work.arrivals.now) (arranged : IsArranged work) where
  -- the arrival of the number
  abbrev pub arrival : Arrival
  arrival = get_or work.arrivals.now number none

  -- it stands at its number
  pub arrival-at : slice_get work.arrivals.now number ≡ Some arrival
  arrival-at = slice_get-get_or work.arrivals.now number none below

  -- its interval is that of its value
  pub arrival-facts : (arrival.value < length work.intervals.now) × (interval_at work.intervals.now arrival.value ≡ interval_of arrival) × (arrival.first ≤ arrival.last)
  arrival-facts = arranged.arrivals.intervals_are number arrival arrival-at

  -- one more has arrived
  pub seen-more : take (number + 1) work.arrivals.now ≡ take number work.arrivals.now ++ arrival ∷ []
  seen-more = take_more work.arrivals.now number none below

  -- arrivals come in the order in which they begin
  pub start-later : start_at work (number - 1) ≤ start_at work number
  start-later = arranged.arrivals.sorted (number - 1) number none (omega arith) below

  -- those that came so far began by now
  pub begun : (k : ℕ) (a : Arrival) → slice_get (take number work.arrivals.now ++ arrival ∷ []) k ≡ Some a → a.first ≤ start_at work number
  begun k a at =
      let found = at_take (number + 1) work.arrivals.now k a (ap (λ (xs : List Arrival). slice_get xs k) seen-more ∙ at) in
      let within = found.0 in
      let up = arranged.arrivals.sorted k number none (omega arith) below in
      let same = ap (λ (b : Arrival). b.first) (get_or_from_slice_get work.arrivals.now k a none found.1) in
      omega arith

  module _ (past now : ℕ) (places : List Place) (active free : List ℕ) (used : ℕ) (fits : Fits work.intervals.now work.saved past now (take number work.arrivals.now) places active free used) where
    -- the new value has a slot
    pub unplaced : place_at places arrival.value ≡ Slot (arrival.value + 2)
    unplaced = elim (fits.forms arrival.value arrival-facts.0) [
      | inl slot ↦ slot
      | inr register ↦ absurd (
          let came = (fits.began arrival.value register.0 register.2).2 in
          let before = at_take number work.arrivals.now came.0 came.1 came.2 in
          let equal : came.0 ≡ number = arranged.arrivals.once came.0 number came.1 arrival before.1 arrival-at came.3 in
          let lower = before.0 in
          let no : ⊥ = omega arith in
          no
          )
    ]

    -- and so it isn't active
    pub absent : IsAmong active arrival.value → ⊥
    absent among =
        let was = (fits.members arrival.value among).1 in
        slot-saved (arrival.value + 2) was.0 (sym unplaced ∙ was.1)

-- what is true of the register that a value takes
pub record IsTaken (intervals : List Interval) (saved now : ℕ) (places : List Place) (active free : List ℕ) (used : ℕ) (free_then : List ℕ) (used_then r : ℕ) : Type 0 where
  pub more : used ≤ used_then
  pub few : used_then ≤ saved
  pub register : r < used_then
  pub left : (u : ℕ) → place_at places u ≡ Saved r → end_of intervals u < now
  pub part : (q : ℕ) → IsAmong free_then q → IsAmong free q × (q ≢ r)
  pub once : (j k q : ℕ) → slice_get free_then j ≡ Some q → slice_get free_then k ≡ Some q → j ≡ k
  pub room : length active + 1 + length free_then ≡ used_then

-- a free register, or the next one
pub IsTaken-from_Takes : (intervals : List Interval) (saved now : ℕ) (seen : List Arrival) (places : List Place) (active free : List ℕ) (used : ℕ) → Fits intervals saved now now seen places active free used → length active < saved
    → (free_then : List ℕ) (used_then r : ℕ) → Takes free used free_then used_then r → IsTaken intervals saved now places active free used free_then used_then r
IsTaken-from_Takes intervals saved now seen places active free used fits room free_then used_then r takes = elim takes [
  | inl back ↦
      let all = fits.room in
      let longer = ap (λ (xs : List ℕ). length xs) back.0 ∙ length_push free_then r in
      let here : slice_get free (length free_then) ≡ Some r = ap (λ (xs : List ℕ). slice_get xs (length free_then)) back.0 ∙ at_push_end free_then r in
      let old : (k q : ℕ) → slice_get free_then k ≡ Some q → slice_get free k ≡ Some q = λ k q at. ap (λ (xs : List ℕ). slice_get xs k) back.0 ∙ at_push_before free_then r k q at in
      let lower = fits.below r (length free_then, here) in
      let within = fits.few in
      let stays = back.1 in
      record {
        more = omega arith;
        few = omega arith;
        register = omega arith;
        left = λ u is. (fits.idle r u (length free_then, here) is).1;
        part = λ q among. (
          (among.0, old among.0 q among.1),
          λ same.
              let equal : among.0 ≡ length free_then = fits.once among.0 (length free_then) q (old among.0 q among.1) (here ∙ ap Some (sym same)) in
              let inside = slice_get_within free_then among.0 q among.1 in
              let no : ⊥ = omega arith in
              no,
        );
        once = λ j k q at_j at_k. fits.once j k q (old j q at_j) (old k q at_k);
        room = omega arith;
      }
  | inr next ↦
      let all = fits.room in
      let none_free = ap (λ (xs : List ℕ). length xs) next.0 in
      let none_then = ap (λ (xs : List ℕ). length xs) next.1 in
      let is = next.2 in
      let one = next.3 in
      record {
        more = omega arith;
        few = omega arith;
        register = omega arith;
        left = λ u holds_r. absurd (let lower = (fits.began u r holds_r).1 in let no : ⊥ = omega arith in no);
        part = λ q among. absurd (none-some q (ap (λ (xs : List ℕ). slice_get xs among.0) (sym next.1) ∙ among.1));
        once = λ j k q at_j at_k. absurd (none-some q (ap (λ (xs : List ℕ). slice_get xs j) (sym next.1) ∙ at_j));
        room = omega arith;
      }
]

-- how a write changes the number of registers
count_written : (places : List Place) (v : ℕ) (p : Place) → v < length places → count_by is_saved (set places v p) + cond {A = ℕ} (is_saved (place_at places v)) 1 0 ≡ count_by is_saved places + cond {A = ℕ} (is_saved p) 1 0
count_written places v p below = sum_by-set (λ (q : Place). cond {A = ℕ} (is_saved q) 1 0) places v p (Slot 0) below

-- one more with a register
pub count-kept : (places : List Place) (v r s : ℕ) → v < length places → place_at places v ≡ Slot s → count_by is_saved (set places v (Saved r)) ≡ count_by is_saved places + 1
count-kept places v r s below is =
    let change = count_written places v (Saved r) below in
    let before : cond {A = ℕ} (is_saved (place_at places v)) 1 0 ≡ 0 = ap (λ (q : Place). cond {A = ℕ} (is_saved q) 1 0) is in
    omega arith

-- one less
pub count-evicted : (places : List Place) (v r s : ℕ) → v < length places → place_at places v ≡ Saved r → count_by is_saved (set places v (Slot s)) + 1 ≡ count_by is_saved places
count-evicted places v r s below is =
    let change = count_written places v (Slot s) below in
    let before : cond {A = ℕ} (is_saved (place_at places v)) 1 0 ≡ 1 = ap (λ (q : Place). cond {A = ℕ} (is_saved q) 1 0) is in
    omega arith
