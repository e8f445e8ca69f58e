-- One more act is cleared.
use Rattle.vg_stage.specs.StageLack.{flag_at, is_done_on}
use Rattle.vg_stage.proofs.ClearLemmas.{cleared_more}
use Rattle.vg_stage.proofs.stage_lack.clear_acts.Goals as goal

pub loop-act-preserved : goal.loop-act-preserved
loop-act-preserved c = λ k.
    cleared_more (is_done_on c.args.table.now.items.now c.args.kind k) c.args.acts.now c.loop-act.act-index c.act-item.result
    (flag_at c.args.flags.now k) (flag_at c.loop-act.flags k) (flag_at c.clear_act.new.flags k)
    (c.loop-act.invariant k) c.loop-act-test.true c.act-item.is (c.clear_act.ensures k)
