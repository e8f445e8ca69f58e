use Rattle.std.proofs.Common.{◌≡◌, drop}
use Rattle.vg_names.specs.First.{first_of}
use Rattle.vg_names.specs.Inner.{inner_names}
use Rattle.vg_names.specs.Unknown.{in_each, fix_unknowns}
use Rattle.vg_resolve.proofs.unknown_item.fixes.Given as goal

abbrev pub invariant-loop-one : goal.invariant-loop-one
invariant-loop-one l = first_of (in_each (fix_unknowns l.table.items.now (inner_names l.table.items.now l.fields)) l.fixes) ≡ first_of (in_each (fix_unknowns l.table.items.now (inner_names l.table.items.now l.fields)) (drop l.one-index l.fixes))
