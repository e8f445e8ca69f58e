use Rattle.std.proofs.Common.{◌≡◌, drop, None}
use Rattle.vg_place.specs.Unplaced.{first_from}
use Rattle.vg_place.proofs.placing.first_late.Given as goal

abbrev pub invariant-loop-k : goal.invariant-loop-k
invariant-loop-k l = first_from l.stages l.k (drop l.k l.instrs) l.best ≡ first_from l.stages 0 l.instrs None
