-- Runs of an image.
use Rattle.std.specs.Prelude.{◌≡◌, Bool, ℕ, zero, suc, ◌≤◌, Option, Some, None, IsNone, is_none, if◌then◌else◌}
use Rattle.vg_isa.specs.declared.isa.Parts.{Parts}
use Rattle.vg_image.specs.declared.image.Image.{Image}
use Rattle.vg_image.specs.declared.ending.Ending.{Ending}
use Rattle.vg_image.specs.State.{State}
use Rattle.vg_image.specs.Step.{Step, Moved, Over, step_of}

-- so many steps, each of which moved, lead from a state to another
abbrev pub Steps : Parts → Image → ℕ → State → State → Type 0
Steps d i zero s t = t ≡ s
Steps d i (suc n) s t = (middle : State) × Steps d i n s middle × (step_of d i middle ≡ Moved t)

-- how a run stands: the steps done, the state reached, and why no further step is done, where that is so
pub record Stand : Type 0 where
  pub done : ℕ
  pub state : State
  pub ending : Option Ending

-- why no step is done at a state; None where one is
abbrev pub ending_of : Step → Option Ending
ending_of (Moved _) = None
ending_of (Over e) = Some e

-- The run of at most so many steps from a state stands so. It goes on while a step moves, up to the bound.
pub record IsRun (d : Parts) (i : Image) (bound : ℕ) (first : State) (r : Stand) : Type 0 where
  pub steps : Steps d i r.done first r.state
  pub within : r.done ≤ bound
  pub ending : r.ending ≡ ending_of (step_of d i r.state)
  pub running : IsNone r.ending → r.done ≡ bound

-- ---- the run as a function

-- the state behind a step; where it doesn't move, the state stays
abbrev pub behind : Step → State → State
behind (Moved t) s = t
behind (Over e) s = s

-- the state after so many steps; where none is done it stays
abbrev pub after : Parts → Image → ℕ → State → State
after d i zero s = s
after d i (suc n) s = behind (step_of d i (after d i n s)) (after d i n s)

-- a step is done at a state
abbrev pub goes_on : Parts → Image → State → Bool
goes_on d i s = is_none (ending_of (step_of d i s))

-- how many of so many steps are done
abbrev pub steps_done : Parts → Image → ℕ → State → ℕ
steps_done d i zero s = 0
steps_done d i (suc n) s = if goes_on d i (after d i n s) then suc (steps_done d i n s) else steps_done d i n s

-- The run of at most so many steps from a state. It is the one that `IsRun` tells (law `one_run`).
abbrev pub run_of : Parts → Image → ℕ → State → Stand
run_of d i bound s = record {
  done = steps_done d i bound s;
  state = after d i bound s;
  ending = ending_of (step_of d i (after d i bound s));
}
