use Rattle.std.proofs.Common.{Bool, ap, not, ◌∙◌}
use Rattle.vg_type.proofs.PlaceLemmas.{tested}
use Rattle.vg_type.specs.Item.{forbidden, in_type, is_bits_type}
use Rattle.vg_type.specs.Scope.{declared_in}
use Rattle.vg_type.specs.Setting.{globals_in, scope_in}
use Rattle.vg_type.proofs.declared_types.index.Goals as goal

pub returns : goal.returns
returns c =
    let x = c.args.setting.now.context.now in
    let t = c.args.declared.now in
    tested (λ (b : Bool). forbidden (not b) t) (in_type (scope_in x) t) c.is_bits_type-test.result (is_bits_type (declared_in (globals_in x) t)) c.earlier.result c.forbidden.result c.in_type.result
    c.earlier.ensures c.forbidden.ensures (c.is_bits_type-test.ensures ∙ ap is_bits_type c.declared_type.ensures) c.in_type.ensures
