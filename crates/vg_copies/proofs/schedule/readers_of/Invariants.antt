use Rattle.vg_copies.proofs.Tables.{CountsFirst}
use Rattle.vg_copies.proofs.schedule.readers_of.Given as goal

abbrev pub invariant-loop-step : goal.invariant-loop-step
invariant-loop-step l = CountsFirst l.moves l.readers.items l.step-index
