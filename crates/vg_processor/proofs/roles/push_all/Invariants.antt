use Rattle.std.proofs.Common.{◌≡◌, ◌++◌, map, take}
use Rattle.vg_type.specs.Setting.{setting_in}
use Rattle.vg_declare.specs.AbiRole.{index_of}
use Rattle.vg_processor.proofs.roles.push_all.Given as goal

abbrev pub invariant-loop-register : goal.invariant-loop-register
invariant-loop-register l = l.all.items ≡ l.initial.all.items ++ map (index_of (setting_in l.setting.context.now)) (take l.register-index l.registers)
