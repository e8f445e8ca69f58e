use Rattle.std.proofs.Common.{◌≡◌, ◌++◌, drop, flat_map}
use Rattle.vg_type.specs.Setting.{setting_in}
use Rattle.vg_declare.specs.AbiPart.{bases_by}
use Rattle.vg_declare.proofs.abi_role.push_roles.Given as goal

abbrev pub invariant-loop-role : goal.invariant-loop-role
invariant-loop-role l = l.initial.all.items ++ flat_map (bases_by (setting_in l.setting.context.now) l.which) l.roles ≡ l.all.items ++ flat_map (bases_by (setting_in l.setting.context.now) l.which) (drop l.role-index l.roles)
