use Rattle.std.proofs.Common.{◌≡◌, take}
use Rattle.vg_graph.specs.Table.{IsIndexed}
use Rattle.vg_graph.proofs.table.Table.of.Given as goal

abbrev pub invariant-loop-n : goal.invariant-loop-n
invariant-loop-n l = record { indexed : IsIndexed (take l.n l.nodes) l.table; room : l.table.room ≡ l.room }
