use Rattle.std.proofs.Common.{◌≡◌, map, take}
use Rattle.vg_type.specs.Setting.{setting_in}
use Rattle.vg_processor.specs.IsaOf.{part_of}
use Rattle.vg_processor.proofs.template.parts_of.Given as goal

abbrev pub invariant-loop-part : goal.invariant-loop-part
invariant-loop-part l = l.row ≡ map (part_of (setting_in l.frame.setting.now.context.now) l.frame.name.now) (take l.part-index l.parts)
