use Rattle.std.proofs.Common.{◌≡◌, ℕ, ◌&&◌, List, ap, ◌∙◌}
use Rattle.vg_type.specs.Scope.{address_width}
use Rattle.vg_type.specs.Setting.{setting_in}
use Rattle.vg_tree.specs.Number.{width_or}
use Rattle.vg_declare.specs.AbiRole.{is_rising}
use Rattle.vg_declare.specs.AbiPart.{are_below, bases_of}
use Rattle.vg_declare.proofs.AbiLemmas.{laid_out}
use Rattle.vg_declare.proofs.abi_role.is_laid_out.Goals as goal

pub returns : goal.returns
returns c =
    let setting = setting_in c.args.setting.now.context.now in
    let roles = c.args.roles.now in
    let bases : c.deref.result.now ≡ bases_of setting roles = c.deref.ensures.value ∙ c.in_ok-bases.ensures in
    let width : c.width_or.result ≡ width_or (address_width setting.all setting.globals) = c.width_or.ensures ∙ ap width_or c.args.setting.now.counted in
    c.is_in_order.ensures
    ∙ ap (λ (ns : List ℕ). is_rising ns && are_below c.width_or.result ns) bases
    ∙ ap (λ (w : ℕ). is_rising (bases_of setting roles) && are_below w (bases_of setting roles)) width
    ∙ laid_out setting roles
