use Rattle.std.proofs.Common.{[], ap, sym, ◌∙◌}
use Rattle.vg_type.proofs.PlaceLemmas.{number_first}
use Rattle.vg_type.specs.Expression.{judged}
use Rattle.vg_type.specs.FirstPlaces.{found_at_number}
use Rattle.vg_type.specs.Setting.{scope_in}
use Rattle.vg_type.proofs.numbers.number.Goals as goal

pub returns : goal.returns
returns c =
    let x = c.args.setting.now.context.now in
    c.at_number.ensures ∙ ap found_at_number c.outside.ensures ∙ sym (number_first (judged (scope_in x) c.args.e.now []))
