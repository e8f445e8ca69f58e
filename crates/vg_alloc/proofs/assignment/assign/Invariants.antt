use Rattle.std.proofs.Common.{◌-◌}
use Rattle.vg_alloc.specs.Steps.{start_at, IsArranged, IsSound}
use Rattle.vg_alloc.proofs.assignment.assign.Given as goal

abbrev pub invariant-loop-number : goal.invariant-loop-number
invariant-loop-number l = record {
  arranged : IsArranged l.work;
  sound : IsSound l.work l.number (start_at l.work (l.number - 1)) (start_at l.work (l.number - 1)) l.scan;
}
