use Rattle.std.proofs.Common.{◌-◌, length, None}
use Rattle.std.specs.Prelude.{count_by}
use Rattle.vg_copies.specs.Schedule.{finished, IsSound, NextWaits, Proceeds}
use Rattle.vg_copies.proofs.schedule.Schedule.follow.Given as goal

abbrev pub invariant-loop-next : goal.invariant-loop-next
invariant-loop-next l = record { sound : IsSound None l.self; waits : NextWaits l.self l.next; proceeds : Proceeds l.fn.self l.self l.start l.next }

abbrev pub decreases-loop-next : goal.decreases-loop-next
decreases-loop-next l = length l.self.moves.items - count_by finished l.self.moves.items
