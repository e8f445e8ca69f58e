use Rattle.std.proofs.Common.{◌≡◌, drop, take, []}
use Rattle.vg_names.specs.First.{first_of}
use Rattle.vg_type.specs.Setting.{setting_in}
use Rattle.vg_declare.specs.AbiRole.{broken_roles}
use Rattle.vg_declare.proofs.abi_role.first_broken.Given as goal

abbrev pub invariant-loop-i : goal.invariant-loop-i
invariant-loop-i l = first_of (broken_roles (setting_in l.setting.context.now) [] l.roles) ≡ first_of (broken_roles (setting_in l.setting.context.now) (take l.i l.roles) (drop l.i l.roles))
