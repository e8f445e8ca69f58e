use Rattle.std.proofs.Common.{◌≡◌, ◌++◌, drop}
use Rattle.vg_type.specs.Setting.{setting_in}
use Rattle.vg_declare.specs.AbiRole.{indices}
use Rattle.vg_declare.specs.AbiPart.{registers_by}
use Rattle.vg_declare.proofs.abi_register.push_roles.Given as goal

abbrev pub invariant-loop-role : goal.invariant-loop-role
invariant-loop-role l = l.initial.all.items ++ indices (setting_in l.setting.context.now) (registers_by l.which) l.roles ≡ l.all.items ++ indices (setting_in l.setting.context.now) (registers_by l.which) (drop l.role-index l.roles)
