use Rattle.std.proofs.Common.{◌≡◌, drop}
use Rattle.vg_names.specs.First.{first_of}
use Rattle.vg_names.specs.Unknown.{in_each, range_unknowns}
use Rattle.vg_resolve.proofs.unknown_item.ranges.Given as goal

abbrev pub invariant-loop-one : goal.invariant-loop-one
invariant-loop-one l = first_of (in_each (range_unknowns l.table.items.now) l.ranges) ≡ first_of (in_each (range_unknowns l.table.items.now) (drop l.one-index l.ranges))
