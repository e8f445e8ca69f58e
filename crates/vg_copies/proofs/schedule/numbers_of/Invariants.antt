use Rattle.std.proofs.Common.{take}
use Rattle.vg_copies.specs.Schedule.{IsNumbered}
use Rattle.vg_copies.proofs.schedule.numbers_of.Given as goal

abbrev pub invariant-loop-number : goal.invariant-loop-number
invariant-loop-number l = IsNumbered l.numbers (take l.number l.moves)
