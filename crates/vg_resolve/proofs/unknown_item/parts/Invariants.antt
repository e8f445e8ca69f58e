use Rattle.std.proofs.Common.{◌≡◌, drop}
use Rattle.vg_names.specs.First.{first_of}
use Rattle.vg_names.specs.Inner.{inner_names}
use Rattle.vg_names.specs.Unknown.{in_each, part_unknowns}
use Rattle.vg_resolve.proofs.unknown_item.parts.Given as goal

abbrev pub invariant-loop-one : goal.invariant-loop-one
invariant-loop-one l = first_of (in_each (part_unknowns l.table.items.now (inner_names l.table.items.now l.fields)) l.parts) ≡ first_of (in_each (part_unknowns l.table.items.now (inner_names l.table.items.now l.fields)) (drop l.one-index l.parts))
