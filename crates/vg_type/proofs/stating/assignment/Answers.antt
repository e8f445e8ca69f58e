use Rattle.std.proofs.Common.{Option, ap, sym, ◌∙◌}
use Rattle.vg_type.proofs.PlaceLemmas.{joined, type_first}
use Rattle.vg_type.specs.Expression.{judged}
use Rattle.vg_type.specs.Faults.{at_type}
use Rattle.vg_type.specs.FirstPlaces.{found_at_type}
use Rattle.vg_type.specs.Setting.{scope_in, sorts_of}
use Rattle.vg_type.specs.Statement.{goal_judged, written_type}
use Rattle.vg_type.specs.declared.value_type.ValueType.{ValueType}
use Rattle.vg_type.proofs.stating.assignment.Goals as goal

pub returns : goal.returns
returns c =
    let x = c.args.setting.now.context.now in
    let inner = sorts_of x c.args.names.now in
    let t = written_type (scope_in x) c.args.written.now inner in
    let j = judged (scope_in x) c.args.value.now inner in
    joined (goal_judged (scope_in x) c.args.written.now inner) (at_type t j) c.earlier.result c.goal.result c.at_type.result
    c.earlier.ensures c.goal.ensures (c.at_type.ensures ∙ ap (λ (o : Option ValueType). found_at_type o c.judged-found.result) c.written_type-has.ensures ∙ ap (found_at_type t) c.judged-found.ensures ∙ sym (type_first t j))
