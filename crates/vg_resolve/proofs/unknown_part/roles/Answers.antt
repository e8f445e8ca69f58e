-- The first place stands at this one, or behind it.
use Rattle.std.proofs.Common.{◌≡◌, None, rules}
use Rattle.vg_names.specs.First.{first_of}
use Rattle.vg_names.specs.Unknown.{role_unknowns}
use Rattle.vg_names.proofs.FirstLemmas.{each_within, each_behind}
use Rattle.vg_resolve.proofs.unknown_part.roles.Goals as goal

pub returns-in-Some : goal.returns-in-Some
returns-in-Some c = each_within (role_unknowns c.args.table.now.items.now) c.args.roles.now c.loop-one.one-index c.one-item.result c.loop-one-test.true c.one-item.is c.loop-one.invariant c.in-Some.at c.in-Some.ensures

pub loop-one-preserved : goal.loop-one-preserved
loop-one-preserved c =
    let none : None ≡ first_of (role_unknowns c.args.table.now.items.now c.one-item.result) = search rules in
    each_behind (role_unknowns c.args.table.now.items.now) c.args.roles.now c.loop-one.one-index c.one-item.result c.loop-one-test.true c.one-item.is c.loop-one.invariant none
