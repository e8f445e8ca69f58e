use Rattle.std.proofs.Common.{◌≡◌, map, take}
use Rattle.vg_type.specs.Setting.{setting_in}
use Rattle.vg_processor.specs.IsaOf.{act_of}
use Rattle.vg_processor.proofs.stages.acts_of.Given as goal

abbrev pub invariant-loop-act : goal.invariant-loop-act
invariant-loop-act l = l.acts ≡ map (act_of (setting_in l.machine.setting.now.context.now)) (take l.act-index l.given)
