-- One more instruction is asked, and the least place of all is the first in order.
use Rattle.std.proofs.Common.{◌≡◌, ◌<◌, ◌≤◌, length, get_or, sym, ap, ◌∙◌, arith}
use Rattle.vg_inline.specs.InPlace.{behaviour_of, known_of}
use Rattle.vg_stage.proofs.IndexLemmas.{least_all, least_more}
use Rattle.vg_stage.specs.Earliest.{least}
use Rattle.vg_tree.specs.Access.{in_instruction, second_readings}
use Rattle.vg_type.specs.Item.{setting_of}
use Rattle.vg_access.proofs.Whole.{done_at, first_access}
use Rattle.vg_access.proofs.two_accesses.least_break.Goals as goal

pub loop-number-preserved : goal.loop-number-preserved
loop-number-preserved c =
    let all = c.args.plain.now.description.items in
    let known = known_of all in
    let n = c.loop-number.number in
    let item = c.index-table-number.result in
    let within : n < length all = grind arith in
    let here : item ≡ get_or all n item = c.index-table-number.is ∙ ap (λ l. get_or l n item) c.requires.table in
    let does = done_at (behaviour_of all known) all n c.in_ok-effect.effect item c.in_ok-effect.ensures ∙ ap (λ l. behaviour_of l known (get_or l n item)) (sym c.requires.table) in
    let found : c.in_ok-found.found ≡ least (in_instruction (setting_of all) known second_readings item) =
    c.in_ok-found.ensures known does
    ∙ ap (λ s. least (in_instruction s known second_readings (get_or c.args.machine.now.setting.now.context.now.table.now.items.now n item))) c.requires.setting
    ∙ ap (λ l. least (in_instruction (setting_of all) known second_readings (get_or l n item))) c.requires.table
    ∙ ap (λ x. least (in_instruction (setting_of all) known second_readings x)) (sym here) in
    least_more (in_instruction (setting_of all) known second_readings) all n item c.loop-number.first c.with_found-first.result c.in_ok-found.found
    c.loop-number.invariant within here found c.with_found-first.ensures

pub returns : goal.returns
returns c =
    let all = c.args.plain.now.description.items in
    let past : length all ≤ c.loop-number.number = grind arith in
    least_all (in_instruction (setting_of all) (known_of all) second_readings) all c.loop-number.number c.loop-number.first c.loop-number.invariant past
    ∙ sym (first_access (setting_of all) (known_of all))
