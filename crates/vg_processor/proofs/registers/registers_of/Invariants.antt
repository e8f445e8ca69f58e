use Rattle.std.proofs.Common.{◌≡◌, take}
use Rattle.std.specs.List.{filter_map}
use Rattle.vg_type.specs.Setting.{setting_in}
use Rattle.vg_processor.specs.IsaOf.{register_decl}
use Rattle.vg_processor.proofs.registers.registers_of.Given as goal

abbrev pub invariant-loop-item : goal.invariant-loop-item
invariant-loop-item l = l.registers ≡ filter_map (register_decl (setting_in l.setting.context.now)) (take l.item-index l.items)
