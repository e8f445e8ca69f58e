-- One thing more, and none left.
use Rattle.vg_ircheck.specs.Counts.{parameter_excess}
use Rattle.vg_ircheck.proofs.CountLemmas.{one_more, all_told}
use Rattle.vg_ircheck.proofs.counts.parameters_beyond.Goals as goal

pub loop-function-preserved : goal.loop-function-preserved
loop-function-preserved c =
    one_more parameter_excess c.args.functions.now c.loop-function.function-index c.function-item.result c.loop-function-test.true c.function-item.is
    c.loop-function.first c.parameter_beyond.result c.sooner-first.result _ c.loop-function.invariant c.parameter_beyond.ensures c.sooner-first.ensures

pub returns : goal.returns
returns c = all_told parameter_excess c.args.functions.now c.loop-function.function-index c.loop-function.first _ c.loop-function-test.false c.loop-function.invariant
