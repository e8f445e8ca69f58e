use Rattle.std.proofs.Common.{◌+◌, not, length}
use Rattle.std.specs.List.{count_by}
use Rattle.vg_names.proofs.CircleLemmas.{IsWalk}
use Rattle.vg_names.proofs.circle.is_circular.Given as goal

abbrev pub invariant-loop-current : goal.invariant-loop-current
invariant-loop-current l = IsWalk l.graph l.node l.seen.items l.work.items

abbrev pub decreases-loop-current : goal.decreases-loop-current
decreases-loop-current l = count_by not l.seen.items + length l.work.items
