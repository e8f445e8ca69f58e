use Rattle.std.proofs.Common.{◌≡◌, map, take}
use Rattle.vg_type.specs.Setting.{setting_in}
use Rattle.vg_declare.specs.FieldCover.{ends_of}
use Rattle.vg_processor.proofs.formats.ranges_of.Given as goal

abbrev pub invariant-loop-range : goal.invariant-loop-range
invariant-loop-range l = l.ends ≡ map (ends_of (setting_in l.setting.context.now).globals.constants) (take l.range-index l.ranges)
