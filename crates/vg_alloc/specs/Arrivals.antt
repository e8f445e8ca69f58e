-- The values with their intervals, in the order of their numbers.
use Rattle.std.specs.Prelude.{ℕ, List, map, length}
use Rattle.std.specs.List.{range_with_len}
use Rattle.vg_goal.specs.Intervals.{Interval, interval_at}
use Rattle.vg_alloc.specs.declared.arrival.Arrival.{Arrival}

-- the arrival of the value of this number
abbrev pub arrival_at : List Interval → ℕ → Arrival
arrival_at intervals value = record { first = (interval_at intervals value).0; last = (interval_at intervals value).1; value = value }

-- the arrivals of all values
abbrev pub arrivals_from : List Interval → List Arrival
arrivals_from intervals = map (arrival_at intervals) (range_with_len 0 (length intervals))
