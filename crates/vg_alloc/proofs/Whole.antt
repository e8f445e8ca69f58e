-- All values have places.
use Rattle.std.proofs.Common.{◌≡◌, ◌≢◌, ℕ, zero, suc, ◌+◌, ◌<◌, ◌≤◌, inl, inr, Bool, true, false, cond, ◌&&◌, List, [], ◌∷◌, length, map, Some, sym, refl, ap, ◌∙◌, subst, arith}
use Rattle.std.specs.Prelude.{slice_get, count_by}
use Rattle.std.specs.List.{range_with_len}
use Rattle.std.specs.List.Sorted.{IsPermutation}
use Rattle.std.proofs.lemmas.Option.{none-some, slice_get-get_or}
use Rattle.std.proofs.lemmas.List.FromFn.{fill_by_all}
use Rattle.std.proofs.lemmas.List.Sorted.{sum_by-IsPermutation}
use Rattle.std.proofs.lemmas.List.Sums.{sum_by-cons, count_by-le-length}
use Rattle.vg_goal.specs.declared.place.Place.{Place}
use Rattle.vg_goal.specs.declared.place.Place.TheVariants.{Slot}
use Rattle.vg_goal.specs.Intervals.{Interval, interval_at, holds, Cross, IsPressureWithin}
use Rattle.vg_alloc.specs.declared.arrival.Arrival.{Arrival}
use Rattle.vg_alloc.specs.Allocation.{place_at, is_saved, count_below, IsFeasible, IsOneOf, IsAllocation}
use Rattle.vg_alloc.specs.Arrivals.{arrival_at, arrivals_from}
use Rattle.vg_alloc.specs.Scan.{interval_of, IsFeasibleFor, Fits, IsBest}
use Rattle.vg_alloc.proofs.Registers.{slot-saved}
use Rattle.vg_alloc.proofs.Best.{chosen-le}

-- a count over a list and over what it is made of
count-map : {X Y : Type 0} (f : X → Y) (p : Y → Bool) (xs : List X) → count_by p (map f xs) ≡ count_by (λ x. p (f x)) xs
count-map f p [] = refl
count-map f p (x ∷ xs) =
    sum_by-cons (λ y. cond {A = ℕ} (p y) 1 0) (f x) (map f xs)
    ∙ ap (λ (n : ℕ). cond {A = ℕ} (p (f x)) 1 0 + n) (count-map f p xs)
    ∙ sym (sum_by-cons (λ y. cond {A = ℕ} (p (f y)) 1 0) x xs)

-- counts over the arrivals are counts over the values
pub count-arrivals : (intervals : List Interval) (arrivals : List Arrival) → IsPermutation (arrivals_from intervals) arrivals → (p : Arrival → Bool) → count_by p arrivals ≡ count_below (λ v. p (arrival_at intervals v)) (length intervals)
count-arrivals intervals arrivals permutation p =
    sum_by-IsPermutation (λ a. cond {A = ℕ} (p a) 1 0) (arrivals_from intervals) arrivals permutation
    ∙ count-map (arrival_at intervals) p (range_with_len 0 (length intervals))

-- and counts over the intervals are, too
count-intervals : (intervals : List Interval) (p : Interval → Bool) → count_by p intervals ≡ count_below (λ v. p (interval_at intervals v)) (length intervals)
count-intervals intervals p =
    let made : intervals ≡ map (interval_at intervals) (range_with_len 0 (length intervals)) = fill_by_all (interval_at intervals) intervals (length intervals) (0, 0) refl (λ k below. refl) in
    ap (count_by p) made ∙ count-map (interval_at intervals) p (range_with_len 0 (length intervals))

count-every : (n a : ℕ) → count_by (λ v. true) (range_with_len a n) ≡ n
count-every zero a = refl
count-every (suc n) a = let rest = count-every n (a + 1) in let step = sum_by-cons (λ (v : ℕ). 1) a (range_with_len (a + 1) n) in omega arith

-- where as many pass as there are, each passes
each_passes : {X : Type 0} (p : X → Bool) (xs : List X) → length xs ≤ count_by p xs → (k : ℕ) (x : X) → slice_get xs k ≡ Some x → p x ≡ true
each_passes p [] all k x at = absurd (none-some x at)
each_passes {X} p (y ∷ ys) all k x at = by k at (p y) refl (each_passes p ys)
  where
    by : (k : ℕ) → slice_get (y ∷ ys) k ≡ Some x → (b : Bool) → p y ≡ b → (length ys ≤ count_by p ys → (k : ℕ) (x : X) → slice_get ys k ≡ Some x → p x ≡ true) → p x ≡ true
    by zero at true test rest = let same : y ≡ x = cc in subst (λ (z : X). p z ≡ true) same test
    by (suc k) at true test rest =
        let step = sum_by-cons (λ (z : X). cond {A = ℕ} (p z) 1 0) y ys in
        let one : cond {A = ℕ} (p y) 1 0 ≡ 1 = ap (λ (b : Bool). cond {A = ℕ} b 1 0) test in
        rest (omega arith) k x at
    by k at false test rest =
        let step = sum_by-cons (λ (z : X). cond {A = ℕ} (p z) 1 0) y ys in
        let none : cond {A = ℕ} (p y) 1 0 ≡ 0 = ap (λ (b : Bool). cond {A = ℕ} b 1 0) test in
        let most = count_by-le-length p ys in
        let no : ⊥ = omega arith in
        absurd no

module _ (intervals : List Interval) (saved past : ℕ) (arrivals : List Arrival) (places : List Place) (active free : List ℕ) (used : ℕ) (permutation : IsPermutation (arrivals_from intervals) arrivals)
    (fits : Fits intervals saved past past arrivals places active free used) (best : IsBest intervals saved past arrivals arrivals (count_by is_saved places) active) where
  apart : (a b : ℕ) → a ≢ b → a < length intervals → b < length intervals → Cross (interval_at intervals a) (interval_at intervals b) → place_at places a ≢ place_at places b
  apart a b other below_a below_b cross same = elim (fits.forms a below_a) [
    | inl slot_a ↦ elim (fits.forms b below_b) [
      | inl slot_b ↦
          let equal : Slot (a + 2) ≡ Slot (b + 2) = sym slot_a ∙ same ∙ slot_b in
          let numbers : a + 2 ≡ b + 2 = cc in
          other (omega arith)
      | inr saved_b ↦ slot-saved (a + 2) saved_b.0 (sym slot_a ∙ same ∙ saved_b.2)
    ]
    | inr saved_a ↦ elim (fits.forms b below_b) [
      | inl slot_b ↦ slot-saved (b + 2) saved_a.0 (sym slot_b ∙ sym same ∙ saved_a.2)
      | inr saved_b ↦ fits.apart a b saved_b.0 other (same ∙ saved_b.2) saved_b.2 cross
    ]
  ]

  fewest : (chosen : ℕ → Bool) → IsFeasible intervals saved chosen → count_below chosen (length intervals) ≤ count_by is_saved places
  fewest chosen feasible =
      let feasible_for : IsFeasibleFor arrivals saved chosen = λ place.
      subst (λ (n : ℕ). n ≤ saved) (sym (count-arrivals intervals arrivals permutation (λ (a : Arrival). chosen a.value && holds place (interval_of a)))) (feasible place) in
      let most = chosen-le intervals saved past arrivals (count_by is_saved places) active best chosen feasible_for in
      let same = count-arrivals intervals arrivals permutation (λ (a : Arrival). chosen a.value) in
      omega arith

  none : IsPressureWithin intervals saved → (value : ℕ) → value < length intervals → is_saved (place_at places value) ≡ true
  none pressure value below =
      let all : IsFeasible intervals saved (λ v. true) = λ place. subst (λ (n : ℕ). n ≤ saved) (count-intervals intervals (holds place)) (pressure place) in
      let most = fewest (λ v. true) all in
      let every = count-every (length intervals) 0 in
      let lengths = fits.lengths in
      let within : value < length places = omega arith in
      let full : length places ≤ count_by is_saved places = omega arith in
      each_passes is_saved places full value (place_at places value) (slice_get-get_or places value (Slot 0) within)

  forms : (value : ℕ) → value < length intervals → IsOneOf saved (length intervals) (place_at places value)
  forms value below = elim (fits.forms value below) [
    | inl slot ↦ inr (value + 2, omega arith, omega arith, slot)
    | inr register ↦ inl (register.0, (let a = register.1 in let b = fits.few in omega arith), register.2)
  ]

  -- the theorem
  pub IsAllocation-whole : IsAllocation intervals saved places
  IsAllocation-whole = record { lengths = fits.lengths; forms = forms; apart = apart; fewest = fewest; none = none }
