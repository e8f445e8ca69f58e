use Rattle.std.proofs.Common.{◌≡◌, drop}
use Rattle.std.specs.List.{list_all}
use Rattle.vg_type.specs.Setting.{setting_in}
use Rattle.vg_declare.specs.AbiRole.{is_aligned}
use Rattle.vg_declare.proofs.abi_role.all_aligned.Given as goal

abbrev pub invariant-loop-role : goal.invariant-loop-role
invariant-loop-role l = list_all (is_aligned (setting_in l.setting.context.now)) l.roles ≡ list_all (is_aligned (setting_in l.setting.context.now)) (drop l.role-index l.roles)
