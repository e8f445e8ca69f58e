use Rattle.std.proofs.Common.{ℕ, ◌<◌}
use Rattle.std.specs.List.{Contains}
use Rattle.vg_names.specs.Search.{IsSearched}
use Rattle.vg_names.proofs.graph.sorted.Given as goal

abbrev pub invariant-loop-root : goal.invariant-loop-root
invariant-loop-root l = IsSearched l.graph l.marks.items l.order.items × ((k : ℕ) → k < l.root → Contains l.order.items k)
