-- An act of this line is the first, or it stands behind it.
use Rattle.std.proofs.Common.{sym, ◌∙◌}
use Rattle.vg_stage.specs.declared.act_kind.ActKind.TheVariants.{Write}
use Rattle.vg_stage.specs.StageMet.{does, first_stage}
use Rattle.vg_stage.specs.StageOrder.{acts_from}
use Rattle.vg_stage.proofs.StageFirst.{few_behind}
use Rattle.vg_stage.proofs.StageLemmas.{first_here, first_later}
use Rattle.vg_stage.proofs.write_stages.first_write.Goals as goal

pub returns-then-have : goal.returns-then-have
returns-then-have c =
    first_here (does Write) c.loop-line.stage c.args.lines.now c.loop-line.line-index c.line-item.result c.acts_of.result.now (first_stage (does Write) (acts_from 0 c.args.lines.now))
    c.loop-line.invariant.left c.loop-line-test.true c.line-item.is c.acts_of.ensures (sym c.if-have.true ∙ c.have.ensures)

pub loop-line-preserved : goal.loop-line-preserved
loop-line-preserved c = record {
  left =
      first_later (does Write) c.loop-line.stage c.args.lines.now c.loop-line.line-index c.line-item.result c.acts_of.result.now c.behind-stage.result (first_stage (does Write) (acts_from 0 c.args.lines.now))
      c.loop-line.invariant.left c.loop-line-test.true c.line-item.is c.acts_of.ensures (sym c.if-have.false ∙ c.have.ensures) c.behind-stage.ensures;
  few = few_behind c.loop-line.stage c.loop-line.line-index c.line-item.result c.behind-stage.result c.loop-line.invariant.few c.behind-stage.ensures;
}
