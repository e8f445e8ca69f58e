-- What the parts of a statement write, in turn.
use Rattle.std.proofs.lemmas.Result.{on_ok_weaker}
use Rattle.vg_type.specs.Setting.{setting_in}
use Rattle.vg_stage.specs.StageOrder.{effect_writes}
use Rattle.vg_processor.proofs.TargetLemmas.{numbers_more, sides_written}
use Rattle.vg_processor.proofs.targets.+effect.Goals as goal

pub push_effect-returns-in_ok-push_effect-in-If : goal.push_effect-returns-in_ok-push_effect-in-If
push_effect-returns-in_ok-push_effect-in-If n c =
    on_ok_weaker c.push_else.result
    (sides_written (setting_in c.args.frame.now.setting.now.context.now) c.args.numbers.now c.args.effect.now c.get.result.now c.in-If.condition_at c.in-If.condition c.in-If.then c.in-If.otherwise c.push_effect.new.numbers c.push_else.new.numbers
    c.in-If.is c.get.ensures c.in_ok-push_effect-in-If.ensures)
    c.push_else.ensures

pub push_effects-loop-effect-preserved : goal.push_effects-loop-effect-preserved
push_effects-loop-effect-preserved n c =
    let setting = setting_in c.args.frame.now.setting.now.context.now in
    numbers_more (effect_writes setting) c.args.effects.now c.loop-effect.effect-index c.effect-item.result c.loop-effect.numbers c.push_effect.new.numbers _
    c.loop-effect.invariant c.loop-effect-test.true c.effect-item.is c.in_ok-push_effect.ensures
