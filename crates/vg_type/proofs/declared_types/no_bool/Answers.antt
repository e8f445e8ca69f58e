use Rattle.std.proofs.Common.{Bool, ap, ◌∙◌}
use Rattle.vg_type.proofs.PlaceLemmas.{tested}
use Rattle.vg_type.specs.Item.{forbidden, in_type, is_bool_type}
use Rattle.vg_type.specs.Scope.{declared_in}
use Rattle.vg_type.specs.Setting.{globals_in, scope_in}
use Rattle.vg_type.proofs.declared_types.no_bool.Goals as goal

pub returns : goal.returns
returns c =
    let x = c.args.setting.now.context.now in
    let t = c.args.declared.now in
    tested (λ (b : Bool). forbidden b t) (in_type (scope_in x) t) c.is_bool_type-test.result (is_bool_type (declared_in (globals_in x) t)) c.earlier.result c.forbidden.result c.in_type.result
    c.earlier.ensures c.forbidden.ensures (c.is_bool_type-test.ensures ∙ ap is_bool_type c.declared_type.ensures) c.in_type.ensures
