-- The acts of this line are noted.
use Rattle.vg_names.specs.Table.{found_at}
use Rattle.vg_stage.specs.StageMet.{first_stage, is_write_to}
use Rattle.vg_stage.specs.StageOrder.{acts_from}
use Rattle.vg_stage.proofs.StageFirst.{few_behind}
use Rattle.vg_stage.proofs.StageLemmas.{line_noted_at}
use Rattle.vg_stage.proofs.write_stages.stages_of.Goals as goal

pub loop-line-preserved : goal.loop-line-preserved
loop-line-preserved c = record {
  noted = λ text.
      line_noted_at (is_write_to text) c.loop-line.stage c.args.lines.now c.loop-line.line-index c.line-item.result c.acts_of.result.now c.behind-stage.result
      (found_at c.loop-line.stages text) (found_at c.note_acts.new.stages text) (first_stage (is_write_to text) (acts_from 0 c.args.lines.now))
      (c.loop-line.invariant.noted text) c.loop-line-test.true c.line-item.is c.acts_of.ensures (c.in_ok-note_acts.ensures text) c.behind-stage.ensures;
  few = few_behind c.loop-line.stage c.loop-line.line-index c.line-item.result c.behind-stage.result c.loop-line.invariant.few c.behind-stage.ensures;
}
