use Rattle.std.proofs.Common.{◌≡◌, map, take}
use Rattle.vg_type.specs.Setting.{setting_in}
use Rattle.vg_processor.specs.IsaOf.{fixed_field}
use Rattle.vg_processor.proofs.encoding.fixes_of.Given as goal

abbrev pub invariant-loop-fix : goal.invariant-loop-fix
invariant-loop-fix l = l.fixed ≡ map (fixed_field (setting_in l.frame.setting.now.context.now) l.frame.name.now) (take l.fix-index l.fixes)
