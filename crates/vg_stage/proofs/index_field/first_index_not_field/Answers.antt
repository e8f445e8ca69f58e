-- One more instruction is found, and the least place of all is the first in order.
use Rattle.std.proofs.Common.{◌∙◌, ◌≤◌, sym, length, arith}
use Rattle.vg_inline.specs.InPlace.{behaviour_of, known_of}
use Rattle.vg_type.specs.Item.{setting_of}
use Rattle.vg_tree.specs.Access.{in_behaviour, wrong_indices}
use Rattle.vg_stage.proofs.IndexLemmas.{least_all}
use Rattle.vg_stage.proofs.IndexWhole.{first_index, least_done}
use Rattle.vg_stage.proofs.index_field.first_index_not_field.Goals as goal

pub loop-number-preserved : goal.loop-number-preserved
loop-number-preserved c =
    let all = c.args.plain.now.description.items in
    least_done (in_behaviour wrong_indices) (behaviour_of all (known_of all)) all c.loop-number.number c.in_ok-effect.effect c.loop-number.first c.earlier-first.result c.behaviour_break.result
    c.loop-number.invariant c.in_ok-effect.ensures c.behaviour_break.ensures c.earlier-first.ensures

pub returns : goal.returns
returns c =
    let all = c.args.plain.now.description.items in
    let past : length all ≤ c.loop-number.number = grind arith in
    least_all (λ item. in_behaviour wrong_indices (behaviour_of all (known_of all) item)) all c.loop-number.number c.loop-number.first c.loop-number.invariant past
    ∙ sym (first_index (setting_of all) (known_of all))
