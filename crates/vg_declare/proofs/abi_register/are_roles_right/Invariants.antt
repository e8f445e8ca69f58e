use Rattle.std.proofs.Common.{◌≡◌, drop, flat_map}
use Rattle.std.specs.List.{list_all}
use Rattle.vg_type.specs.Setting.{setting_in}
use Rattle.vg_declare.specs.AbiRole.{registers_of}
use Rattle.vg_declare.specs.Registers.{is_right}
use Rattle.vg_declare.proofs.abi_register.are_roles_right.Given as goal

abbrev pub invariant-loop-role : goal.invariant-loop-role
invariant-loop-role l = list_all (is_right (setting_in l.setting.context.now) l.first) (flat_map registers_of l.roles) ≡ list_all (is_right (setting_in l.setting.context.now) l.first) (flat_map registers_of (drop l.role-index l.roles))
