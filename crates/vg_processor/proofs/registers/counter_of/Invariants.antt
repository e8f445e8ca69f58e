use Rattle.std.proofs.Common.{◌≡◌, drop}
use Rattle.vg_type.specs.Setting.{setting_in}
use Rattle.vg_processor.specs.IsaOf.{counter_of}
use Rattle.vg_processor.proofs.registers.counter_of.Given as goal

abbrev pub invariant-loop-item : goal.invariant-loop-item
invariant-loop-item l = counter_of (setting_in l.setting.context.now) l.items ≡ counter_of (setting_in l.setting.context.now) (drop l.item-index l.items)
