-- The first place stands at this one, or behind it.
use Rattle.vg_names.specs.Inner.{inner_names}
use Rattle.vg_names.specs.Unknown.{fix_unknowns}
use Rattle.vg_names.proofs.FirstLemmas.{each_within}
use Rattle.vg_resolve.proofs.unknown_item.fixes.Goals as goal

pub returns-in-Some : goal.returns-in-Some
returns-in-Some c = each_within (fix_unknowns c.args.table.now.items.now (inner_names c.args.table.now.items.now c.args.fields.now)) c.args.fixes.now c.loop-one.one-index c.one-item.result c.loop-one-test.true c.one-item.is c.loop-one.invariant c.in-Some.at c.in-Some.ensures
