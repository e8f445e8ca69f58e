-- One more instruction is asked.
use Rattle.std.proofs.Common.{◌≡◌, ◌<◌, ◌≤◌, length, get_or, sym, ap, ◌∙◌, arith}
use Rattle.std.proofs.lemmas.List.{drop_all}
use Rattle.vg_inline.specs.InPlace.{known_of}
use Rattle.vg_names.specs.First.{first_of}
use Rattle.vg_names.specs.Unknown.{in_each}
use Rattle.vg_names.proofs.FirstLemmas.{each_behind, each_within}
use Rattle.vg_tree.specs.Access.{in_instruction, second_writes}
use Rattle.vg_type.specs.Item.{setting_of}
use Rattle.vg_type.specs.Setting.{setting_in}
use Rattle.vg_access.proofs.WholeWrites.{item_found}
use Rattle.vg_access.proofs.two_writes.first_break.Goals as goal

pub returns-in-Some : goal.returns-in-Some
returns-in-Some c =
    let all = c.args.plain.now.description.items in
    let given = c.args.machine.now.setting.now.context.now in
    let items = given.table.now.items.now in
    let n = c.loop-number.number in
    let item = get_or items n c.index-table-number.result in
    let within : n < length all = grind arith in
    let is : item ≡ get_or items n item = ap (get_or items n) c.index-table-number.is in
    let here : item ≡ get_or all n item = is ∙ ap (λ l. get_or l n item) c.requires.table in
    each_within (in_instruction (setting_of all) (known_of all) second_writes) all n item within here c.loop-number.invariant c.in-Some.at
    (sym c.in-Some.is ∙ item_found given.table.now.items.now all (setting_in given) (known_of all) n item c.in_ok-effect.effect c.in_ok-at.field-0 c.requires.table c.requires.setting is c.in_ok-effect.ensures (c.in_ok-at.ensures (known_of all)))

pub loop-number-preserved : goal.loop-number-preserved
loop-number-preserved c =
    let all = c.args.plain.now.description.items in
    let given = c.args.machine.now.setting.now.context.now in
    let items = given.table.now.items.now in
    let n = c.loop-number.number in
    let item = get_or items n c.index-table-number.result in
    let within : n < length all = grind arith in
    let is : item ≡ get_or items n item = ap (get_or items n) c.index-table-number.is in
    let here : item ≡ get_or all n item = is ∙ ap (λ l. get_or l n item) c.requires.table in
    each_behind (in_instruction (setting_of all) (known_of all) second_writes) all n item within here c.loop-number.invariant
    (sym c.in_default.is ∙ item_found given.table.now.items.now all (setting_in given) (known_of all) n item c.in_ok-effect.effect c.in_ok-at.field-0 c.requires.table c.requires.setting is c.in_ok-effect.ensures (c.in_ok-at.ensures (known_of all)))

pub returns : goal.returns
returns c =
    let all = c.args.plain.now.description.items in
    let past : length all ≤ c.loop-number.number = grind arith in
    sym (c.loop-number.invariant ∙ ap (λ l. first_of (in_each (in_instruction (setting_of all) (known_of all) second_writes) l)) (drop_all c.loop-number.number all past))
