-- Where the intervals of values end.
use Rattle.std.specs.Prelude.{ℕ, ◌<◌, ◌≤◌, List, length, slice_get, slice_index, ◌≡◌, Some}
use Rattle.vg_goal.specs.Intervals.{Interval, interval_at}

-- the last place of the interval of a value
abbrev pub end_of : List Interval → ℕ → ℕ
end_of intervals value = (interval_at intervals value).1

-- the first `count` of these values end at this place or before it
abbrev pub EndsBy : List Interval → ℕ → List ℕ → ℕ → Type 0
EndsBy intervals place values count = (k : ℕ) → k < count → k < length values → end_of intervals (slice_index values k) ≤ place

-- the values have intervals
abbrev pub AreWithin : List Interval → List ℕ → Type 0
AreWithin intervals values = (k value : ℕ) → slice_get values k ≡ Some value → value < length intervals
