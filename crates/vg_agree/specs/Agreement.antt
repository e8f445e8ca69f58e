-- What a machine's run may say of a program's run, and that it always says so.
use Rattle.std.specs.Prelude.{◌≡◌, ℕ, ◌+◌, ◌-◌, ◌*◌, ◌/◌, ◌<◌, ◌≤◌, ◌⊎◌, Option, Some, None}
use Rattle.vg_agree.specs.Meaning.{Outcome, Next, End, StackFull, Undefined, outcome}
use Rattle.vg_agree.specs.Machine.{Halt, Ended, Full, Failed, Stand, stand}
use Rattle.vg_agree.specs.Diagram.{Diagram}

-- the outcome of so many steps of the program
abbrev pub outcome_of : (d : Diagram) → ℕ → Outcome d.State d.Result d.Cause
outcome_of d n = outcome d.step d.start n

-- how the machine's run stands after at most so many moves
abbrev pub stand_of : (d : Diagram) → ℕ → Stand d.Place d.Fault
stand_of d n = stand d.move n d.first

-- the program has neither ended nor filled the stack
abbrev pub IsOpen : {State Result Cause : Type 0} → Outcome State Result Cause → Type 0
IsOpen (Next s) = Unit
IsOpen (End r) = ⊥
IsOpen StackFull = ⊥
IsOpen (Undefined c) = Unit

-- the program's run comes to a step without meaning
abbrev pub BecomesUndefined : Diagram → Type 0
BecomesUndefined d = (n : ℕ) × (c : d.Cause) × (outcome_of d n ≡ Undefined c)

-- the program's run ends with a result that the place shows
abbrev pub EndsShownAt : (d : Diagram) → d.Place → Type 0
EndsShownAt d m = (n : ℕ) × (r : d.Result) × (outcome_of d n ≡ End r) × d.Shows r m

-- the program's run fills the stack
abbrev pub FillsStack : Diagram → Type 0
FillsStack d = (n : ℕ) × (outcome_of d n ≡ StackFull)

-- What is told of the program by a machine that stands at a place, halted or not, after a bound of moves.
-- Ended: the program ends with the result shown. Full: it fills the stack. Still running: it has neither ended nor
-- filled the stack within so many steps: the bound less the start's cost, over the cost of a step. Failed: it becomes
-- undefined. Of a program that becomes undefined, an end and a full stack tell nothing.
abbrev pub Tells : (d : Diagram) → ℕ → d.Place → Option (Halt d.Fault) → Type 0
Tells d bound m (Some Ended) = EndsShownAt d m ⊎ BecomesUndefined d
Tells d bound m (Some Full) = FillsStack d ⊎ BecomesUndefined d
Tells d bound m (Some (Failed f)) = BecomesUndefined d
Tells d bound m None = d.start_cost ≤ bound → IsOpen (outcome_of d ((bound - d.start_cost) / d.step_cost))

-- The machine's run and the program's run agree, both ways.
pub record Agreement (d : Diagram) : Type 0 where
  -- however many moves the machine is let make, what it then says is so of the program
  pub answers : (bound : ℕ) → Tells d bound (stand_of d bound).place (stand_of d bound).halt
  -- where the program ends, the machine has ended by the costs of its steps, and shows the result
  pub ends : (n : ℕ) (r : d.Result) (bound : ℕ) → outcome_of d n ≡ End r → d.start_cost + n * d.step_cost ≤ bound
      → ((stand_of d bound).halt ≡ Some Ended) × d.Shows r (stand_of d bound).place
  -- where the program fills the stack, the machine has halted for that by the costs of its steps
  pub fills : (n bound : ℕ) → outcome_of d n ≡ StackFull → d.start_cost + n * d.step_cost ≤ bound
      → (stand_of d bound).halt ≡ Some Full
  -- while the program goes on, the machine does
  pub goes_on : (n : ℕ) (s : d.State) (bound : ℕ) → outcome_of d n ≡ Next s → bound < n → (stand_of d bound).halt ≡ None
