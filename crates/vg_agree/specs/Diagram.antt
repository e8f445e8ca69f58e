-- A simulation diagram: a program's meaning, a machine, and how the states of the two belong together.
use Rattle.std.specs.Prelude.{◌≡◌, ℕ, ◌≤◌}
use Rattle.vg_agree.specs.Meaning.{Outcome, Next, End, StackFull, Undefined}
use Rattle.vg_agree.specs.Machine.{Halt, Ended, Full, Move, Halted, Leads}

-- Two systems and a relation. The program has states, results and causes, a step and a start. The machine has places,
-- faults, a move and a first place. `Related` holds of a state and a place at which the machine is about to do the
-- state's step, `Shows` of a result and a place at which the machine shows that result. The costs are the moves that
-- the start and a step take at most.
pub record Diagram : Type 1 where
  pub State : Type 0
  pub Result : Type 0
  pub Cause : Type 0
  pub step : State → Outcome State Result Cause
  pub start : Outcome State Result Cause
  pub Place : Type 0
  pub Fault : Type 0
  pub move : Place → Move Place Fault
  pub first : Place
  pub Related : State → Place → Type 0
  pub Shows : Result → Place → Type 0
  pub start_cost : ℕ
  pub step_cost : ℕ

-- from a place the machine comes within so many moves, at least and at most, to one where this holds
pub record Comes (d : Diagram) (least most : ℕ) (from : d.Place) (There : d.Place → Type 0) : Type 0 where
  pub moves : ℕ
  pub place : d.Place
  pub at_least : least ≤ moves
  pub at_most : moves ≤ most
  pub leads : Leads d.move moves from place
  pub there : There place

-- the machine halts at a place
abbrev pub Halts : (d : Diagram) → Halt d.Fault → d.Place → Type 0
Halts d h m = d.move m ≡ Halted h

-- the machine ends at a place, and shows the result there
abbrev pub EndsWith : (d : Diagram) → d.Result → d.Place → Type 0
EndsWith d r m = Halts d Ended m × d.Shows r m

-- From a place the machine comes, within so many moves, to what an outcome says: to a related place, to its end with
-- the result, to the full stack. Of a step without meaning nothing is asked.
abbrev pub Meets : (d : Diagram) → (least most : ℕ) → Outcome d.State d.Result d.Cause → d.Place → Type 0
Meets d least most (Next s) m = Comes d least most m (d.Related s)
Meets d least most (End r) m = Comes d least most m (EndsWith d r)
Meets d least most StackFull m = Comes d least most m (Halts d Full)
Meets d least most (Undefined c) m = Unit

-- The diagram commutes: the machine meets the start within its cost, and each step of a state from each place that is
-- related to it, by 1 move at least and the cost of a step at most.
pub record Commutes (d : Diagram) : Type 0 where
  pub starts : Meets d 0 d.start_cost d.start d.first
  pub steps : (s : d.State) (m : d.Place) → d.Related s m → Meets d 1 d.step_cost (d.step s) m
