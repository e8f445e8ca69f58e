use Rattle.std.proofs.Common.{◌≡◌, ◌-◌, length}
use Rattle.vg_alloc.specs.Active.{members}
use Rattle.vg_alloc.specs.Steps.{start_at, IsSound}
use Rattle.vg_alloc.proofs.scan.Scan.expire.Given as goal

abbrev pub invariant-loop-value : goal.invariant-loop-value
invariant-loop-value l = record {
  sound : IsSound l.work l.number (start_at l.work (l.number - 1)) (start_at l.work l.number) l.self;
  starts : l.now ≡ start_at l.work l.number;
}

abbrev pub decreases-loop-value : goal.decreases-loop-value
decreases-loop-value l = length (members l.self.active)
