use Rattle.std.proofs.Common.{◌≡◌, flat_map, drop}
use Rattle.vg_type.specs.Setting.{setting_in}
use Rattle.vg_stage.specs.StageLack.{some_lack}
use Rattle.vg_stage.specs.StageOrder.{effect_reads}
use Rattle.vg_stage.proofs.stage_uses.+reads.Given as goal

abbrev pub invariant-all_reads_lack-loop-effect : goal.invariant-all_reads_lack-loop-effect
invariant-all_reads_lack-loop-effect l =
    some_lack l.lacking.flags (flat_map (effect_reads (setting_in l.lacking.context.now)) l.effects)
    ≡ some_lack l.lacking.flags (flat_map (effect_reads (setting_in l.lacking.context.now)) (drop l.effect-index l.effects))
