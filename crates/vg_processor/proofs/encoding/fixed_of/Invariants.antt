use Rattle.std.proofs.Common.{◌≡◌, flat_map, take}
use Rattle.vg_type.specs.Setting.{setting_in}
use Rattle.vg_processor.specs.IsaOf.{fixed_by}
use Rattle.vg_processor.proofs.encoding.fixed_of.Given as goal

abbrev pub invariant-loop-item : goal.invariant-loop-item
invariant-loop-item l = l.fixed ≡ flat_map (fixed_by (setting_in l.frame.setting.now.context.now) l.instruction l.frame.name.now) (take l.item-index l.items)
