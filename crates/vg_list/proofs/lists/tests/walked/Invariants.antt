use Rattle.std.proofs.Common.{◌-◌, length}
use Rattle.vg_list.specs.NodeLists.{nodes_of}
use Rattle.vg_list.specs.Walk.{IsWalk}
use Rattle.vg_list.proofs.lists.tests.walked.Given as goal

abbrev pub invariant-loop-current : goal.invariant-loop-current
invariant-loop-current l = IsWalk l.lists l.list l.seen.items l.current

abbrev pub decreases-loop-current : goal.decreases-loop-current
decreases-loop-current l = length (nodes_of l.lists l.list) - length l.seen.items
