use Rattle.std.proofs.Common.{◌≡◌, length}
use Rattle.vg_list.proofs.lists.tests.calls_change_lists.Given as goal

abbrev pub invariant-loop-call : goal.invariant-loop-call
invariant-loop-call g l = record { nodes : l.lists.nodes ≡ 6; lists : length l.lists.lists ≡ 3 }
