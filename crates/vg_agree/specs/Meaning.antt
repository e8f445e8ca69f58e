-- Runs of a program by its meaning: one step at a time, up to the first answer that is no state.
use Rattle.std.specs.Prelude.{ℕ, zero, suc}

-- What one step answers: the next state; the end, with its result; the stack is full; or a step that has
-- no meaning, with its cause.
pub data Outcome (State Result Cause : Type 0) : Type 0 where
  Next : State → Outcome State Result Cause
  End : Result → Outcome State Result Cause
  StackFull : Outcome State Result Cause
  Undefined : Cause → Outcome State Result Cause

-- what comes one step behind an outcome: the step of a state; any other outcome stays
abbrev pub after : {State Result Cause : Type 0} → (State → Outcome State Result Cause) → Outcome State Result Cause
    → Outcome State Result Cause
after step (Next s) = step s
after step (End r) = End r
after step StackFull = StackFull
after step (Undefined c) = Undefined c

-- The outcome of so many steps behind the start, which is a state or an outcome itself. So at most one outcome that is
-- no state is ever reached.
abbrev pub outcome : {State Result Cause : Type 0} → (State → Outcome State Result Cause) → Outcome State Result Cause
    → ℕ → Outcome State Result Cause
outcome step start zero = start
outcome step start (suc n) = after step (outcome step start n)
