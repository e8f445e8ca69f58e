use Rattle.std.proofs.Common.{length}
use Rattle.vg_settle.specs.Sweep.{AreStarts, AreSound, unmarked}
use Rattle.vg_settle.proofs.settling.settle.Given as goal

-- the marks are sound, and the table has their starts
abbrev pub invariant-loop : goal.invariant-loop
invariant-loop l = record {
  sound : AreSound l.items l.bytes l.marks.items;
  starts : AreStarts l.items l.marks.items l.starts.items;
}

abbrev pub decreases-loop : goal.decreases-loop
decreases-loop l = unmarked l.marks.items (length l.items)
