-- What is true of a scan.
use Rattle.std.specs.Prelude.{◌≡◌, ℕ, ◌+◌, ◌-◌, ◌^◌, ◌<◌, ◌⊎◌, List, [], ◌∷◌, ◌++◌, length, take, count_by, slice_index_or}
use Rattle.vg_alloc.specs.declared.work.Work.{Work}
use Rattle.vg_alloc.specs.declared.scan.Scan.{Scan}
use Rattle.vg_alloc.specs.Allocation.{is_saved}
use Rattle.vg_alloc.specs.Active.{members, IsKept}
use Rattle.vg_alloc.specs.Scan.{Fits, IsBest, AreArrivals}

-- where the arrival of this number begins
abbrev pub start_at : Work → ℕ → ℕ
start_at work number = (slice_index_or work.arrivals.now number (record { first = 0; last = 0; value = 0 })).first

-- the arrivals are those of the intervals, in order, and the numbers of their slots fit
pub record IsArranged (work : Work) : Type 0 where
  pub arrivals : AreArrivals work.intervals.now work.arrivals.now
  pub small : length work.intervals.now < 2 ^ 32 - 2
  pub registers : work.saved < 2 ^ 32

-- the first `seen` arrivals have places
pub record IsFitting (work : Work) (seen past now : ℕ) (s : Scan) : Type 0 where
  pub kept : IsKept (length work.intervals.now) s.active
  pub fits : Fits work.intervals.now work.saved past now (take seen work.arrivals.now) s.places.items (members s.active) s.free.items s.used

-- and no choice is better
pub record IsSound (work : Work) (seen past now : ℕ) (s : Scan) : Type 0 where
  pub fitting : IsFitting work seen past now s
  pub best : IsBest work.intervals.now work.saved now work.arrivals.now (take seen work.arrivals.now) (count_by is_saved s.places.items) (members s.active)

-- a register was taken from those that are free, or is the next one
abbrev pub Takes : List ℕ → ℕ → List ℕ → ℕ → ℕ → Type 0
Takes free used free_then used_then register =
    ((free ≡ free_then ++ register ∷ []) × (used_then ≡ used)) ⊎ ((free ≡ []) × (free_then ≡ []) × (register ≡ used) × (used_then ≡ used + 1))
