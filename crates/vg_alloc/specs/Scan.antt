-- What is true on the way through the intervals, in the order in which they begin.
use Rattle.std.specs.Prelude.{◌≡◌, ◌≢◌, ℕ, ◌+◌, ◌<◌, ◌≤◌, Bool, ◌&&◌, nat_lt, ◌⊎◌, List, length, count_by, slice_get, Some}
use Rattle.std.specs.List.Sorted.{IsNonDecreasingBy}
use Rattle.vg_goal.specs.declared.place.Place.{Place}
use Rattle.vg_goal.specs.declared.place.Place.TheVariants.{Saved, Slot}
use Rattle.vg_goal.specs.Intervals.{Interval, interval_at, holds, Cross}
use Rattle.vg_alloc.specs.declared.arrival.Arrival.{Arrival}
use Rattle.vg_alloc.specs.Allocation.{place_at}
use Rattle.vg_alloc.specs.Ends.{end_of}

-- the interval of an arrival
abbrev pub interval_of : Arrival → Interval
interval_of arrival = (arrival.first, arrival.last)

-- the value stands in the list
abbrev pub IsAmong : List ℕ → ℕ → Type 0
IsAmong xs x = (k : ℕ) × (slice_get xs k ≡ Some x)

-- the value has arrived
abbrev pub HasArrived : List Arrival → ℕ → Type 0
HasArrived seen value = (k : ℕ) × (arrival : Arrival) × (slice_get seen k ≡ Some arrival) × (arrival.value ≡ value)

-- The registers of the values that have arrived. The active ones hold the place `past`, and those that hold a register
-- and aren't active have ended before `now`.
pub record Fits (intervals : List Interval) (saved past now : ℕ) (seen : List Arrival) (places : List Place) (active free : List ℕ) (used : ℕ) : Type 0 where
  pub lengths : length places ≡ length intervals
  pub forms : (v : ℕ) → v < length intervals → (place_at places v ≡ Slot (v + 2)) ⊎ ((r : ℕ) × (r < used) × (place_at places v ≡ Saved r))
  pub few : used ≤ saved
  pub room : length active + length free ≡ used
  pub order : past ≤ now
  pub members : (v : ℕ) → IsAmong active v → (v < length intervals) × ((r : ℕ) × (place_at places v ≡ Saved r)) × ((interval_at intervals v).0 ≤ past) × (past ≤ end_of intervals v)
  pub sorted : IsNonDecreasingBy (end_of intervals) active
  pub began : (v r : ℕ) → place_at places v ≡ Saved r → (v < length intervals) × (r < used) × HasArrived seen v × ((interval_at intervals v).0 ≤ past)
  pub held : (v r : ℕ) → place_at places v ≡ Saved r → IsAmong active v ⊎ (end_of intervals v < now)
  pub idle : (r v : ℕ) → IsAmong free r → place_at places v ≡ Saved r → (IsAmong active v → ⊥) × (end_of intervals v < now)
  pub below : (r : ℕ) → IsAmong free r → r < used
  pub once : (j k r : ℕ) → slice_get free j ≡ Some r → slice_get free k ≡ Some r → j ≡ k
  pub apart : (u v r : ℕ) → u ≢ v → place_at places u ≡ Saved r → place_at places v ≡ Saved r → Cross (interval_at intervals u) (interval_at intervals v) → ⊥

-- at most `saved` of the intervals that were chosen hold any one place
abbrev pub IsFeasibleFor : List Arrival → ℕ → (ℕ → Bool) → Type 0
IsFeasibleFor all saved chosen = (place : ℕ) → count_by (λ arrival. chosen arrival.value && holds place (interval_of arrival)) all ≤ saved

-- how many of the arrivals that were chosen have ended before a place
abbrev pub ended_chosen : (ℕ → Bool) → ℕ → List Arrival → ℕ
ended_chosen chosen place seen = count_by (λ arrival. chosen arrival.value && nat_lt arrival.last place) seen

-- how many of the active values end before a place
abbrev pub ended_active : List Interval → ℕ → List ℕ → ℕ
ended_active intervals place active = count_by (λ v. nat_lt (end_of intervals v) place) active

-- By each place from `now` on, at least as many of the `registers` values that hold a register have ended as of any
-- choice of those that have arrived. Those that aren't active have ended.
pub record IsBest (intervals : List Interval) (saved now : ℕ) (all seen : List Arrival) (registers : ℕ) (active : List ℕ) : Type 0 where
  pub best : (chosen : ℕ → Bool) → IsFeasibleFor all saved chosen → (place : ℕ) → now ≤ place → ended_chosen chosen place seen + length active ≤ registers + ended_active intervals place active

-- the arrivals are those of the intervals, in the order in which they begin
pub record AreArrivals (intervals : List Interval) (arrivals : List Arrival) : Type 0 where
  pub intervals_are : (k : ℕ) (arrival : Arrival) → slice_get arrivals k ≡ Some arrival → (arrival.value < length intervals) × (interval_at intervals arrival.value ≡ interval_of arrival) × (arrival.first ≤ arrival.last)
  pub once : (j k : ℕ) (a b : Arrival) → slice_get arrivals j ≡ Some a → slice_get arrivals k ≡ Some b → a.value ≡ b.value → j ≡ k
  pub sorted : IsNonDecreasingBy (λ (arrival : Arrival). arrival.first) arrivals
