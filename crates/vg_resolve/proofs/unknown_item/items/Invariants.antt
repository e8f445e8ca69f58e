use Rattle.std.proofs.Common.{◌≡◌, drop}
use Rattle.vg_names.specs.First.{first_of}
use Rattle.vg_names.specs.Unknown.{in_each, item_unknowns}
use Rattle.vg_resolve.proofs.unknown_item.items.Given as goal

abbrev pub invariant-loop-number : goal.invariant-loop-number
invariant-loop-number l = first_of (in_each (item_unknowns l.table.items.now) l.table.items.now) ≡ first_of (in_each (item_unknowns l.table.items.now) (drop l.number l.table.items.now))
