use Rattle.std.proofs.Common.{Bool, ◌≡◌}
use Rattle.vg_inline.specs.Context.{items_of}
use Rattle.vg_type.proofs.PlaceLemmas.{tested}
use Rattle.vg_type.specs.Item.{first_format, in_type, is_wrong_format, misfit, width_given}
use Rattle.vg_type.specs.Scope.{declared_in, width_in}
use Rattle.vg_type.specs.Setting.{globals_in, scope_in}
use Rattle.vg_type.proofs.declared_types.format.Goals as goal

pub returns : goal.returns
returns c =
    let x = c.args.setting.now.context.now in
    let t = c.args.declared.now in
    let w = width_given (globals_in x) (first_format (items_of x)) in
    let e : c.is_wrong_format-test.result ≡ is_wrong_format w (width_in (declared_in (globals_in x) t)) = cc in
    tested (λ (b : Bool). misfit b t) (in_type (scope_in x) t) c.is_wrong_format-test.result (is_wrong_format w (width_in (declared_in (globals_in x) t))) c.earlier.result c.misfit.result c.in_type.result
    c.earlier.ensures c.misfit.ensures e c.in_type.ensures
