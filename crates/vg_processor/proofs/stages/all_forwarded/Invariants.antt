use Rattle.std.proofs.Common.{◌≡◌, take}
use Rattle.std.specs.List.{filter_map}
use Rattle.vg_type.specs.Setting.{setting_in}
use Rattle.vg_processor.specs.IsaOf.{forwarded}
use Rattle.vg_processor.proofs.stages.all_forwarded.Given as goal

abbrev pub invariant-loop-line : goal.invariant-loop-line
invariant-loop-line l = l.registers ≡ filter_map (forwarded (setting_in l.machine.setting.now.context.now)) (take l.line-index l.lines)
