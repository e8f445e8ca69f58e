use Rattle.std.proofs.Common.{◌≡◌, ◌++◌, drop, map}
use Rattle.vg_type.specs.Setting.{setting_in}
use Rattle.vg_declare.specs.AbiRole.{index_of}
use Rattle.vg_declare.proofs.abi_register.push_all.Given as goal

abbrev pub invariant-loop-register : goal.invariant-loop-register
invariant-loop-register l = l.initial.all.items ++ map (index_of (setting_in l.setting.context.now)) l.registers ≡ l.all.items ++ map (index_of (setting_in l.setting.context.now)) (drop l.register-index l.registers)
