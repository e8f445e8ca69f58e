-- Places for values by their intervals, with as few slots as any choice allows.
use Rattle.std.specs.Prelude.{◌≡◌, ◌≢◌, ℕ, ◌+◌, ◌<◌, ◌≤◌, Bool, true, false, ◌&&◌, ◌⊎◌, List, length, count_by, slice_index_or}
use Rattle.std.specs.List.{range_with_len}
use Rattle.vg_goal.specs.declared.place.Place.{Place}
use Rattle.vg_goal.specs.declared.place.Place.TheVariants.{Saved, Slot}
use Rattle.vg_goal.specs.Intervals.{Interval, interval_at, holds, Cross, IsPressureWithin}

-- the place of the value of this number
abbrev pub place_at : List Place → ℕ → Place
place_at places value = slice_index_or places value (Slot 0)

-- whether a place is a register
abbrev pub is_saved : Place → Bool
is_saved (Saved register) = true
is_saved _ = false

-- how many numbers below `count` pass the test
abbrev pub count_below : (ℕ → Bool) → ℕ → ℕ
count_below test count = count_by test (range_with_len 0 count)

-- At most `bound` of the intervals that were chosen hold any one place.
abbrev pub IsFeasible : List Interval → ℕ → (ℕ → Bool) → Type 0
IsFeasible intervals bound chosen = (place : ℕ) → count_below (λ value. chosen value && holds place (interval_at intervals value)) (length intervals) ≤ bound

-- a register below `saved`, or a slot from 2 to the number of values plus 1
abbrev pub IsOneOf : ℕ → ℕ → Place → Type 0
IsOneOf saved values place = ((k : ℕ) × (k < saved) × (place ≡ Saved k)) ⊎ ((k : ℕ) × (2 ≤ k) × (k ≤ values + 1) × (place ≡ Slot k))

-- The places allocate so many registers to the intervals.
pub record IsAllocation (intervals : List Interval) (saved : ℕ) (places : List Place) : Type 0 where
  pub lengths : length places ≡ length intervals
  pub forms : (value : ℕ) → value < length intervals → IsOneOf saved (length intervals) (place_at places value)
  -- values whose intervals cross have different places
  pub apart : (a b : ℕ) → a ≢ b → a < length intervals → b < length intervals → Cross (interval_at intervals a) (interval_at intervals b) → place_at places a ≢ place_at places b
  -- no choice of which at most `saved` hold any one place has more members than those that get a register
  pub fewest : (chosen : ℕ → Bool) → IsFeasible intervals saved chosen → count_below chosen (length intervals) ≤ count_by is_saved places
  -- no slot where the pressure is at most `saved`
  pub none : IsPressureWithin intervals saved → (value : ℕ) → value < length intervals → is_saved (place_at places value) ≡ true
