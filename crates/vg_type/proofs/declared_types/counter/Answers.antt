use Rattle.std.proofs.Common.{Bool, ap, ◌∙◌}
use Rattle.vg_type.proofs.PlaceLemmas.{tested}
use Rattle.vg_type.specs.Item.{is_no_machine_width, misfit, no_bool}
use Rattle.vg_type.specs.Scope.{declared_in, width_in}
use Rattle.vg_type.specs.Setting.{globals_in, setting_in}
use Rattle.vg_type.proofs.declared_types.counter.Goals as goal

pub returns : goal.returns
returns c =
    let x = c.args.setting.now.context.now in
    let t = c.args.declared.now in
    tested (λ (b : Bool). misfit b t) (no_bool (setting_in x) t) c.is_no_machine_width-test.result (is_no_machine_width (width_in (declared_in (globals_in x) t))) c.earlier.result c.misfit.result c.no_bool.result
    c.earlier.ensures c.misfit.ensures (c.is_no_machine_width-test.ensures ∙ ap is_no_machine_width (c.width_in.ensures ∙ ap width_in c.declared_type.ensures)) c.no_bool.ensures
