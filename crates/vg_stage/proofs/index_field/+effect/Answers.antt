-- One more statement is found.
use Rattle.std.proofs.Common.{ap, ◌∙◌}
use Rattle.vg_inline.specs.declared.effect.Effect.{Effect}
use Rattle.vg_tree.specs.Access.{wrong_indices}
use Rattle.vg_stage.specs.Earliest.{least}
use Rattle.vg_stage.proofs.IndexLemmas.{found_if, least_more}
use Rattle.vg_stage.proofs.index_field.+effect.Goals as goal

pub effects_break-loop-effect-preserved : goal.effects_break-loop-effect-preserved
effects_break-loop-effect-preserved t c =
    least_more wrong_indices c.args.effects.now c.loop-effect.effect-index c.effect-item.result c.loop-effect.first c.earlier-first.result c.effect_break.result
    c.loop-effect.invariant c.loop-effect-test.true c.effect-item.is c.effect_break.ensures c.earlier-first.ensures

pub effect_break-returns-in-If : goal.effect_break-returns-in-If
effect_break-returns-in-If t c =
    found_if c.args.effect.now c.in-If.condition_at c.in-If.condition c.in-If.then c.in-If.otherwise c.tree_indices-condition.result.first c.effect_break.result c.else_break.result c.earlier-body.result c.earlier.result
    c.in-If.is c.tree_indices-condition.ensures.first (c.effect_break.ensures ∙ ap (λ (y : Effect). least (wrong_indices y)) c.get.ensures) c.else_break.ensures c.earlier-body.ensures c.earlier.ensures
