-- What some instruction reads or writes lacks an act.
use Rattle.vg_inline.specs.InPlace.{known_of}
use Rattle.vg_stage.proofs.StageWhole.{lack_of}
use Rattle.vg_stage.proofs.stage_order.lack.Goals as goal

pub returns : goal.returns
returns c =
    lack_of c.args.setting.now.context.now c.in_ok-reads.reads.context.now (known_of c.args.plain.now.description.items) c.args.plain.now.description.items c.args.lines.now c.in_ok-reads.reads.flags c.in_ok-writes.writes.flags c.in_ok-lack.lack c.is_incomplete.result
    c.in_ok-reads.ensures.context c.requires.table c.in_ok-reads.ensures.flags c.in_ok-writes.ensures.flags c.if-is_incomplete.false c.is_incomplete.ensures c.in_ok-lack.ensures
