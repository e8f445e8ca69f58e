use Rattle.std.proofs.Common.{Option, ap, sym, ◌∙◌}
use Rattle.vg_ast.specs.declared.parameter.Parameter.{Parameter}
use Rattle.vg_type.proofs.PlaceLemmas.{joined, type_first}
use Rattle.vg_type.specs.Expression.{judged}
use Rattle.vg_type.specs.Faults.{at_type, both, of_each}
use Rattle.vg_type.specs.FirstPlaces.{found_at_type}
use Rattle.vg_type.specs.Item.{in_type}
use Rattle.vg_type.specs.Scope.{parameter_sorts, type_in}
use Rattle.vg_type.specs.Setting.{globals_in, scope_in}
use Rattle.vg_type.specs.declared.value_type.ValueType.{ValueType}
use Rattle.vg_type.proofs.describing.function.Goals as goal

pub returns : goal.returns
returns c =
    let x = c.args.setting.now.context.now in
    let given = c.args.given.now in
    let t = type_in (globals_in x) given in
    let j = judged (scope_in x) c.args.body.now (parameter_sorts (globals_in x) c.args.taken.now) in
    joined (of_each (λ (parameter : Parameter). in_type (scope_in x) parameter.declared) c.args.taken.now) (both (in_type (scope_in x) given) (at_type t j)) c.earlier-2.result c.parameters.result c.earlier.result
    c.earlier-2.ensures c.parameters.ensures
    (joined (in_type (scope_in x) given) (at_type t j) c.earlier.result c.in_type.result c.at_type.result c.earlier.ensures c.in_type.ensures
    (c.at_type.ensures ∙ ap (λ (o : Option ValueType). found_at_type o c.judged-found.result) c.type_in-has.ensures ∙ ap (found_at_type t) c.judged-found.ensures ∙ sym (type_first t j)))
