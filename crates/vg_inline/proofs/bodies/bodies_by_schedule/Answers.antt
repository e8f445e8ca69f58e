use Rattle.std.proofs.Common.{sym, subst}
use Rattle.vg_whole.specs.Worths.{constants_by}
use Rattle.vg_inline.specs.Context.{aliases_by}
use Rattle.vg_inline.specs.Scheduled.{SomeBodies}
use Rattle.vg_inline.proofs.Lacking.{lacking_at_start}
use Rattle.vg_inline.proofs.bodies.bodies_by_schedule.Goals as goal

pub loop-action-init : goal.loop-action-init
loop-action-init c =
    let all = c.args.table.now.items.now in
    let constants = constants_by all c.args.worths.now in
    let aliases = aliases_by all c.args.aliases.now in
    subst (SomeBodies c.args.keep all constants aliases) (sym c.in_ok-bodies.ensures) (lacking_at_start c.args.keep all constants aliases c.requires.worked)
