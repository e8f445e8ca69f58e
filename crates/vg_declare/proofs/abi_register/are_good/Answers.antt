use Rattle.std.proofs.Common.{flat_map, ◌∙◌}
use Rattle.vg_type.specs.Setting.{setting_in}
use Rattle.vg_declare.specs.AbiRole.{registers_of}
use Rattle.vg_declare.proofs.AbiLemmas.{good_with}
use Rattle.vg_declare.proofs.abi_register.are_good.Goals as goal

pub returns-in-Some : goal.returns-in-Some
returns-in-Some c = c.are_roles_right.ensures ∙ good_with (setting_in c.args.setting.now.context.now) c.in-Some.first.now (flat_map registers_of c.args.roles.now) c.in-Some.ensures
