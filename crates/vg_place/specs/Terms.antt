-- What the recurrence of time says, beside how it is worked out: the terms of a location, and the order of cycles.
use Rattle.std.specs.Prelude.{◌≡◌, ℕ, suc, ◌+◌, ◌<◌, ◌≤◌, false, ◌⊎◌, List, ◌∷◌, Some, slice_get}
use Rattle.vg_isa.specs.declared.isa.Parts.{Parts}
use Rattle.vg_isa.specs.declared.abi.Micro.{Micro}
use Rattle.vg_place.specs.declared.stage_table.Stages.{Stages}
use Rattle.vg_place.specs.Time.{Executed, Gives, Place, Skips, TimedRow, entry_cycle}

-- the row writes the location, or names it in a write that isn't made, and t is the cycle in which that is known
abbrev pub IsKnown : Place → TimedRow Place → ℕ → Type 0
IsKnown l row t = ((v : ℕ) × (row.0.touches l ≡ Gives v) × (t ≡ row.1 v)) ⊎ ((g : ℕ) × (row.0.touches l ≡ Skips g) × (t ≡ row.1 g))

-- none of the first k rows, which are the youngest, writes the location
abbrev pub NoneWrites : Place → List (TimedRow Place) → ℕ → Type 0
NoneWrites l rows k = (m : ℕ) (row : TimedRow Place) (v : ℕ) → m < k → slice_get rows m ≡ Some row → row.0.touches l ≡ Gives v → ⊥

-- A term of a location behind rows, youngest first: of the last row that writes it, or of one behind that which names
-- it in a write that isn't made.
pub record IsTerm (l : Place) (rows : List (TimedRow Place)) (t : ℕ) : Type 0 where
  pub place : ℕ
  pub row : TimedRow Place
  pub stands : slice_get rows place ≡ Some row
  pub youngest : NoneWrites l rows place
  pub known : IsKnown l row t

-- t is the greatest of the terms of a location; 0 where there is none
pub record IsGreatest (l : Place) (rows : List (TimedRow Place)) (t : ℕ) : Type 0 where
  pub bound : (u : ℕ) → IsTerm l rows u → u ≤ t
  pub met : (t ≡ 0) ⊎ IsTerm l rows t

-- In the cycles of executed instructions, youngest first, each stage takes a cycle at least, and no two instructions are
-- in one stage in one cycle.
pub record KeepsOrder (d : Parts) (micro : Micro) (s : Stages) : Type 0 where
  -- an instruction does a stage behind the one before
  pub stages : (e : Executed) (earlier : List Executed) (stage : ℕ) → entry_cycle d micro s (e ∷ earlier) stage + 1 ≤ entry_cycle d micro s (e ∷ earlier) (suc stage)
  -- no sooner than the instruction before it leaves that stage for the next
  pub apart :
      (e f : Executed) (earlier : List Executed) (stage : ℕ)
      → suc stage < s.count
      → entry_cycle d micro s (f ∷ earlier) (suc stage) ≤ entry_cycle d micro s (e ∷ f ∷ earlier) stage
  -- and behind its cycle in the last stage
  pub last :
      (e f : Executed) (earlier : List Executed) (stage : ℕ)
      → suc stage ≡ s.count
      → entry_cycle d micro s (f ∷ earlier) stage + 1 ≤ entry_cycle d micro s (e ∷ f ∷ earlier) stage
  -- and it is fetched behind the cycle in which a wrong guess is decided
  pub wrong :
      (e f : Executed) (earlier : List Executed)
      → f.right ≡ false
      → entry_cycle d micro s (f ∷ earlier) s.resolve + 1 ≤ entry_cycle d micro s (e ∷ f ∷ earlier) 0
