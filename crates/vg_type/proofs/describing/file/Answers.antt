use Rattle.std.proofs.Common.{Option, ap, ◌∙◌}
use Rattle.vg_type.proofs.PlaceLemmas.{joined}
use Rattle.vg_type.specs.Faults.{both, of_any}
use Rattle.vg_type.specs.FirstPlaces.{first_places}
use Rattle.vg_type.specs.Item.{index_faults, no_bool, number_at}
use Rattle.vg_type.specs.Scope.{type_in}
use Rattle.vg_type.specs.Setting.{globals_in, scope_in, setting_in}
use Rattle.vg_type.specs.declared.value_type.ValueType.{ValueType}
use Rattle.vg_type.proofs.describing.file.Goals as goal

pub returns : goal.returns
returns c =
    let x = c.args.setting.now.context.now in
    let s = setting_in x in
    let t = type_in (globals_in x) c.args.indices.now in
    joined (index_faults s c.args.indices.now) (both (no_bool s c.args.given.now) (of_any (number_at (scope_in x) t) c.args.constant.now)) c.earlier-2.result c.index.result c.earlier.result
    c.earlier-2.ensures c.index.ensures
    (joined (no_bool s c.args.given.now) (of_any (number_at (scope_in x) t) c.args.constant.now) c.earlier.result c.no_bool.result c.constant_index.result c.earlier.ensures c.no_bool.ensures
    (c.constant_index.ensures ∙ ap (λ (o : Option ValueType). first_places (of_any (number_at (scope_in x) o) c.args.constant.now)) c.type_in-has.ensures))
