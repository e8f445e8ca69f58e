use Rattle.std.proofs.Common.{ap, ◌∙◌, List}
use Rattle.vg_ast.specs.declared.role.Role.{Role}
use Rattle.vg_type.specs.Setting.{setting_in}
use Rattle.vg_processor.specs.AbiFrom.{abi_from}
use Rattle.vg_processor.specs.Held.{holds_abi}
use Rattle.vg_processor.proofs.AbiLemmas.{abi_is}
use Rattle.vg_processor.proofs.interface.abi_of.Goals as goal

pub abi_by_roles-requires : goal.abi_by_roles-requires
abi_by_roles-requires c = ap (λ (roles : List Role). holds_abi (abi_from (setting_in c.args.machine.now.setting.now.context.now) roles)) c.as_slice.ensures ∙ c.requires

pub returns : goal.returns
returns c =
    c.in_ok-interface.ensures ∙ ap (abi_from (setting_in c.args.machine.now.setting.now.context.now)) c.as_slice.ensures
    ∙ abi_is (setting_in c.args.machine.now.setting.now.context.now) c.args.abi.now
