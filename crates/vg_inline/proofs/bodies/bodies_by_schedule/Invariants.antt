use Rattle.vg_whole.specs.Worths.{constants_by}
use Rattle.vg_inline.specs.Context.{aliases_by}
use Rattle.vg_inline.specs.Scheduled.{SomeBodies}
use Rattle.vg_inline.proofs.bodies.bodies_by_schedule.Given as goal

abbrev pub invariant-loop-action : goal.invariant-loop-action
invariant-loop-action l =
    let all = l.table.items.now in
    SomeBodies l.keep all (constants_by all l.worths) (aliases_by all l.aliases) l.bodies
