-- The arrivals of the intervals, and a scan that has seen none of them.
use Rattle.std.proofs.Common.{◌≡◌, ◌≢◌, ℕ, zero, suc, ◌+◌, ◌<◌, ◌≤◌, inl, inr, Bool, true, cond, eqb, List, [], ◌∷◌, length, Some, sym, refl, ap, ◌∙◌, subst, arith, zero-add}
use Rattle.std.specs.Prelude.{slice_get, count_by}
use Rattle.std.specs.List.{All, range_with_len}
use Rattle.std.specs.List.Sorted.{IsPermutation, IsNonDecreasingBy}
use Rattle.std.proofs.lemmas.Option.{none-some, slice_get_within, get_or_from_slice_get}
use Rattle.std.proofs.lemmas.Bool.{cases_lt}
use Rattle.std.proofs.lemmas.Bool.Decides.{eqb_tells}
use Rattle.std.proofs.lemmas.List.{get_or_past}
use Rattle.std.proofs.lemmas.List.FromFn.{length-map-range_with_len, get_or-map-range_with_len}
use Rattle.std.proofs.lemmas.List.Sorted.{All-permutation}
use Rattle.std.proofs.lemmas.List.Sums.{sum_by-cons}
use Rattle.vg_goal.specs.declared.place.Place.TheVariants.{Saved, Slot}
use Rattle.vg_goal.specs.Intervals.{Interval, interval_at}
use Rattle.vg_goal.specs.Slots.{slot_of, slots}
use Rattle.vg_goal.proofs.Lists.{Has-count}
use Rattle.vg_alloc.specs.declared.arrival.Arrival.{Arrival}
use Rattle.vg_alloc.specs.Allocation.{place_at}
use Rattle.vg_alloc.specs.Arrivals.{arrival_at, arrivals_from}
use Rattle.vg_alloc.specs.Scan.{interval_of, Fits, IsBest, AreArrivals}
use Rattle.vg_alloc.proofs.Registers.{slot-saved}
use Rattle.vg_alloc.proofs.Whole.{count-arrivals}

-- each number stands at one place of a range
none_below : (n a v : ℕ) → v < a → count_by (λ u. eqb u v) (range_with_len a n) ≡ 0
none_below zero a v below = refl
none_below (suc n) a v below =
    let rest = none_below n (a + 1) v (omega arith) in
    let step = sum_by-cons (λ (u : ℕ). cond {A = ℕ} (eqb u v) 1 0) a (range_with_len (a + 1) n) in
    let other : cond {A = ℕ} (eqb a v) 1 0 ≡ 0 = elim (eqb_tells a v) as (λ _. cond {A = ℕ} (eqb a v) 1 0 ≡ 0) [
      | inl (_, same) ↦ absurd (let no : ⊥ = omega arith in no)
      | inr (test, _) ↦ ap (λ (b : Bool). cond {A = ℕ} b 1 0) test
    ] in
    omega arith

one_at_most : (n a v : ℕ) → count_by (λ u. eqb u v) (range_with_len a n) ≤ 1
one_at_most zero a v = omega arith
one_at_most (suc n) a v =
    let step = sum_by-cons (λ (u : ℕ). cond {A = ℕ} (eqb u v) 1 0) a (range_with_len (a + 1) n) in
    elim (eqb_tells a v) [
      | inl (test, same) ↦
          let rest = none_below n (a + 1) v (omega arith) in
          let one : cond {A = ℕ} (eqb a v) 1 0 ≡ 1 = ap (λ (b : Bool). cond {A = ℕ} b 1 0) test in
          omega arith
      | inr (test, _) ↦
          let rest = one_at_most n (a + 1) v in
          let none : cond {A = ℕ} (eqb a v) 1 0 ≡ 0 = ap (λ (b : Bool). cond {A = ℕ} b 1 0) test in
          omega arith
    ]

-- what passes at two places is counted twice
count_two : {X : Type 0} (p : X → Bool) (xs : List X) (j k : ℕ) (a b : X) → j ≢ k → slice_get xs j ≡ Some a → slice_get xs k ≡ Some b → p a ≡ true → p b ≡ true → 2 ≤ count_by p xs
count_two p [] j k a b other at_a at_b test_a test_b = absurd (none-some a at_a)
count_two p (x ∷ xs) zero zero a b other at_a at_b test_a test_b = absurd (other refl)
count_two {X} p (x ∷ xs) zero (suc k) a b other at_a at_b test_a test_b =
    let rest = Has-count p xs k b at_b test_b in
    let step = sum_by-cons (λ (z : X). cond {A = ℕ} (p z) 1 0) x xs in
    let same : x ≡ a = cc in
    let one : cond {A = ℕ} (p x) 1 0 ≡ 1 = ap (λ (z : X). cond {A = ℕ} (p z) 1 0) same ∙ ap (λ (t : Bool). cond {A = ℕ} t 1 0) test_a in
    omega arith
count_two {X} p (x ∷ xs) (suc j) zero a b other at_a at_b test_a test_b =
    let rest = Has-count p xs j a at_a test_a in
    let step = sum_by-cons (λ (z : X). cond {A = ℕ} (p z) 1 0) x xs in
    let same : x ≡ b = cc in
    let one : cond {A = ℕ} (p x) 1 0 ≡ 1 = ap (λ (z : X). cond {A = ℕ} (p z) 1 0) same ∙ ap (λ (t : Bool). cond {A = ℕ} t 1 0) test_b in
    omega arith
count_two {X} p (x ∷ xs) (suc j) (suc k) a b other at_a at_b test_a test_b =
    let rest = count_two p xs j k a b (λ same. other (ap suc same)) at_a at_b test_a test_b in
    let step = sum_by-cons (λ (z : X). cond {A = ℕ} (p z) 1 0) x xs in
    omega arith

module _ (intervals : List Interval) (arrivals : List Arrival) (permutation : IsPermutation (arrivals_from intervals) arrivals) where
  -- what is true of an arrival
  abbrev Belongs : Arrival → Type 0
  Belongs a = (a.value < length intervals) × (interval_at intervals a.value ≡ interval_of a) × (a.first ≤ a.last)

  belong : All (λ (interval : Interval). interval.0 ≤ interval.1) intervals → (k : ℕ) (a : Arrival) → slice_get arrivals k ≡ Some a → Belongs a
  belong order k a at =
      let each : All Belongs (arrivals_from intervals) = λ j d below.
      let within : j < length intervals = let l = length-map-range_with_len (arrival_at intervals) 0 (length intervals) in omega arith in
      let is = get_or-map-range_with_len (arrival_at intervals) 0 (length intervals) j j d within (zero-add j) in
      subst Belongs (sym is) (within, refl, order j (0, 0) within) in
      let found = All-permutation Belongs (arrivals_from intervals) arrivals permutation each k a (slice_get_within arrivals k a at) in
      subst Belongs (get_or_from_slice_get arrivals k a a at) found

  once : (j k : ℕ) (a b : Arrival) → slice_get arrivals j ≡ Some a → slice_get arrivals k ≡ Some b → a.value ≡ b.value → j ≡ k
  once j k a b at_a at_b same = elim (eqb_tells j k) [
    | inl (_, equal) ↦ equal
    | inr (_, differ) ↦ absurd (
        let v = b.value in
        let counted = count-arrivals intervals arrivals permutation (λ (x : Arrival). eqb x.value v) in
        let most = one_at_most (length intervals) 0 v in
        let test_a : eqb a.value v ≡ true = elim (eqb_tells a.value v) as (λ _. eqb a.value v ≡ true) [ inl (test, _) ↦ test | inr (_, differs) ↦ absurd (differs same) ] in
        let test_b : eqb b.value v ≡ true = elim (eqb_tells b.value v) as (λ _. eqb b.value v ≡ true) [ inl (test, _) ↦ test | inr (_, differs) ↦ absurd (differs refl) ] in
        let two = count_two (λ (x : Arrival). eqb x.value v) arrivals j k a b differ at_a at_b test_a test_b in
        let no : ⊥ = omega arith in
        no
        )
  ]

  -- sorted, they are the arrivals
  pub AreArrivals-sorted : All (λ (interval : Interval). interval.0 ≤ interval.1) intervals → IsNonDecreasingBy (λ (a : Arrival). a.first) arrivals → AreArrivals intervals arrivals
  AreArrivals-sorted order sorted = record { intervals_are = belong order; once = once; sorted = sorted }

-- at first each value has a slot
all_slots : (n v r : ℕ) → place_at (slots n) v ≡ Saved r → ⊥
all_slots n v r is = elim (cases_lt v n) [
  | inl below ↦ slot-saved (v + 2) r (sym (get_or-map-range_with_len slot_of 0 n v v (Slot 0) below (zero-add v)) ∙ is)
  | inr over ↦ slot-saved 0 r (sym (get_or_past (slots n) v (Slot 0) (let l = length-map-range_with_len slot_of 0 n in omega arith)) ∙ is)
]

-- no register is taken
pub Fits-start : (intervals : List Interval) (saved now : ℕ) → Fits intervals saved now now [] (slots (length intervals)) [] [] 0
Fits-start intervals saved now = record {
  lengths = length-map-range_with_len slot_of 0 (length intervals);
  forms = λ v below. inl (get_or-map-range_with_len slot_of 0 (length intervals) v v (Slot 0) below (zero-add v));
  few = omega arith;
  room = refl;
  order = omega arith;
  members = λ v among. absurd (none-some v among.1);
  sorted = λ i j d from below. absurd (let no : ⊥ = omega arith in no);
  began = λ v r is. absurd (all_slots (length intervals) v r is);
  held = λ v r is. absurd (all_slots (length intervals) v r is);
  idle = λ r v among is. absurd (none-some r among.1);
  below = λ r among. absurd (none-some r among.1);
  once = λ j k r at_j at_k. absurd (none-some r at_j);
  apart = λ u v r other is_u is_v. absurd (all_slots (length intervals) u r is_u);
}

-- no choice among no arrivals is ahead
pub IsBest-start : (intervals : List Interval) (saved now : ℕ) (all : List Arrival) (registers : ℕ) → IsBest intervals saved now all [] registers []
IsBest-start intervals saved now all registers = record { best = λ chosen feasible place from. omega arith }
