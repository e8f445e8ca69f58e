use Rattle.std.proofs.Common.{sym, subst, rules}
use Rattle.vg_whole.specs.Worths.{constants_by}
use Rattle.vg_inline.specs.Context.{aliases_by}
use Rattle.vg_inline.specs.Scheduled.{SomeBodies}
use Rattle.vg_inline.proofs.Lacking.{made_at}
use Rattle.vg_inline.proofs.bodies.act.Goals as goal

pub returns-in_ok-body-in-Some : goal.returns-in_ok-body-in-Some
returns-in_ok-body-in-Some c =
    let all = c.args.table.now.items.now in
    let constants = constants_by all c.args.worths.now in
    let aliases = aliases_by all c.args.aliases.now in
    subst (SomeBodies c.args.keep all constants aliases) (sym c.set.ensures)
    (made_at c.args.keep all constants aliases c.requires.worked c.args.bodies.now c.in-Make.number c.in-Some.item.now c.in_ok-body-in-Some.body c.requires.some (search rules) (search rules))
