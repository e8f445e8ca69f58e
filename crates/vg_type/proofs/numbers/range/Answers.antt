use Rattle.std.proofs.Common.{ap, ◌∙◌}
use Rattle.vg_ast.specs.declared.expr.Expr.{Expr}
use Rattle.vg_type.proofs.PlaceLemmas.{joined}
use Rattle.vg_type.specs.Faults.{of_any}
use Rattle.vg_type.specs.FirstPlaces.{first_places}
use Rattle.vg_type.specs.Item.{number_faults}
use Rattle.vg_type.specs.Setting.{scope_in}
use Rattle.vg_type.proofs.numbers.range.Goals as goal

pub returns : goal.returns
returns c =
    let x = c.args.setting.now.context.now in
    let r = c.args.range.now in
    joined (number_faults (scope_in x) r.high) (of_any (number_faults (scope_in x)) r.low) c.earlier.result c.number.result c.low.result
    c.earlier.ensures (c.number.ensures ∙ ap (λ (e : Expr). first_places (number_faults (scope_in x) e)) c.get.ensures) c.low.ensures
