use Rattle.std.proofs.Common.{take}
use Rattle.vg_names.proofs.CircleLemmas.{IsMeeting}
use Rattle.vg_names.proofs.circle.meet.Given as goal

abbrev pub invariant-loop-used : goal.invariant-loop-used
invariant-loop-used l = IsMeeting l.sought (take l.used-index l.uses) l.uses l.initial.seen l.seen l.initial.work.items l.work.items
