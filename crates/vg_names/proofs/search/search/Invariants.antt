use Rattle.std.proofs.Common.{◌+◌, ◌*◌, length}
use Rattle.std.specs.List.{count_by}
use Rattle.vg_names.specs.Search.{is_new, IsSearching}
use Rattle.vg_names.proofs.search.search.Given as goal

abbrev pub invariant-loop-step : goal.invariant-loop-step
invariant-loop-step l = IsSearching l.graph l.root l.fn.order.items l.marks l.order.items l.open.items

abbrev pub decreases-loop-step : goal.decreases-loop-step
decreases-loop-step l = 2 * count_by is_new l.marks + length l.open.items
