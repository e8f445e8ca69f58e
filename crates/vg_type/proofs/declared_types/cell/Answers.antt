use Rattle.std.proofs.Common.{Bool, ap, ◌∙◌}
use Rattle.vg_type.proofs.PlaceLemmas.{tested}
use Rattle.vg_type.specs.Item.{in_type, is_other, misfit}
use Rattle.vg_type.specs.Scope.{declared_in}
use Rattle.vg_type.specs.Setting.{globals_in, scope_in}
use Rattle.vg_type.proofs.declared_types.cell.Goals as goal

pub returns : goal.returns
returns c =
    let x = c.args.setting.now.context.now in
    let t = c.args.declared.now in
    tested (λ (b : Bool). misfit b t) (in_type (scope_in x) t) c.is_other-test.result (is_other c.args.width (declared_in (globals_in x) t)) c.earlier.result c.misfit.result c.in_type.result
    c.earlier.ensures c.misfit.ensures (c.is_other-test.ensures ∙ ap (is_other c.args.width) c.declared_type.ensures) c.in_type.ensures
