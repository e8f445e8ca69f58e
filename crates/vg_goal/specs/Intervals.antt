-- Intervals of places in the code, as plain data.
use Rattle.std.specs.Prelude.{ℕ, ◌≤◌, Bool, ◌&&◌, nat_le, List, count_by, slice_index_or}

-- the first and the last place that an interval holds
abbrev pub Interval : Type 0
Interval = ℕ × ℕ

-- the interval of the value of this number
abbrev pub interval_at : List Interval → ℕ → Interval
interval_at intervals value = slice_index_or intervals value (0, 0)

-- whether an interval holds a place
abbrev pub holds : ℕ → Interval → Bool
holds place interval = nat_le interval.0 place && nat_le place interval.1

-- some place is held by both intervals
abbrev pub Cross : Interval → Interval → Type 0
Cross a b = (a.0 ≤ b.1) × (b.0 ≤ a.1)

-- how many intervals hold a place
abbrev pub held_at : List Interval → ℕ → ℕ
held_at intervals place = count_by (holds place) intervals

-- The pressure, the greatest number of intervals that hold one place, is at most this number.
abbrev pub IsPressureWithin : List Interval → ℕ → Type 0
IsPressureWithin intervals bound = (place : ℕ) → held_at intervals place ≤ bound
