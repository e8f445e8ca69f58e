use Rattle.std.proofs.Common.{◌≡◌, ◌≤◌, length}
use Rattle.std.specs.List.{All}
use Rattle.vg_goal.specs.Intervals.{Interval}
use Rattle.vg_alloc.proofs.assignment.tests.intervals_of.Given as goal

abbrev pub invariant-loop-pair : goal.invariant-loop-pair
invariant-loop-pair g l = record {
  order : All (λ (interval : Interval). interval.0 ≤ interval.1) l.made.items;
  count : length l.made.items ≡ l.pair-index;
}
