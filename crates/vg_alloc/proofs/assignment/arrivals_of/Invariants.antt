use Rattle.std.proofs.Common.{◌≡◌, map}
use Rattle.std.specs.List.{range_with_len}
use Rattle.vg_alloc.specs.Arrivals.{arrival_at}
use Rattle.vg_alloc.proofs.assignment.arrivals_of.Given as goal

abbrev pub invariant-loop-value : goal.invariant-loop-value
invariant-loop-value l = l.arrivals.items ≡ map (arrival_at l.intervals) (range_with_len 0 l.value)
