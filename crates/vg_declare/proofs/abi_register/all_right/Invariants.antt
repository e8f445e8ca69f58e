use Rattle.std.proofs.Common.{◌≡◌, drop}
use Rattle.std.specs.List.{list_all}
use Rattle.vg_type.specs.Setting.{setting_in}
use Rattle.vg_declare.specs.Registers.{is_right}
use Rattle.vg_declare.proofs.abi_register.all_right.Given as goal

abbrev pub invariant-loop-register : goal.invariant-loop-register
invariant-loop-register l = list_all (is_right (setting_in l.setting.context.now) l.first) l.registers ≡ list_all (is_right (setting_in l.setting.context.now) l.first) (drop l.register-index l.registers)
