use Rattle.vg_settle.proofs.Sweeping.{Swept}
use Rattle.vg_settle.proofs.sweep.sweep.Given as goal

abbrev pub invariant-loop-k : goal.invariant-loop-k
invariant-loop-k l = Swept l.items l.bytes l.fn.marks l.marks l.starts l.k l.from l.any
