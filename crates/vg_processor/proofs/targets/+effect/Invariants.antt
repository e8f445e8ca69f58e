use Rattle.std.proofs.Common.{◌≡◌, flat_map, drop}
use Rattle.vg_type.specs.Setting.{setting_in}
use Rattle.vg_stage.specs.StageOrder.{effect_writes}
use Rattle.vg_processor.specs.Outcome.{with_numbers}
use Rattle.vg_processor.proofs.targets.+effect.Given as goal

abbrev pub invariant-push_effects-loop-effect : goal.invariant-push_effects-loop-effect
invariant-push_effects-loop-effect l =
    with_numbers l.numbers (flat_map (effect_writes (setting_in l.frame.setting.now.context.now)) (drop l.effect-index l.effects))
    ≡ with_numbers l.initial.numbers (flat_map (effect_writes (setting_in l.frame.setting.now.context.now)) l.effects)
