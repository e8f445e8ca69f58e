use Rattle.std.proofs.Common.{◌≡◌, flat_map, take}
use Rattle.vg_type.specs.Setting.{setting_in}
use Rattle.vg_processor.specs.RoleNumbers.{numbers_by}
use Rattle.vg_processor.proofs.roles.numbers_of.Given as goal

abbrev pub invariant-loop-role : goal.invariant-loop-role
invariant-loop-role l = l.all.items ≡ flat_map (numbers_by (setting_in l.setting.context.now) l.which) (take l.role-index l.roles)
