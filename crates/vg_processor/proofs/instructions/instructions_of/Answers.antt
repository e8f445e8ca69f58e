-- One more instruction is made.
use Rattle.std.proofs.Common.{get_or, sym, ap, ◌∙◌}
use Rattle.vg_inline.specs.InPlace.{behaviour_of, known_of}
use Rattle.vg_type.specs.Setting.{setting_in}
use Rattle.vg_processor.specs.IsaOf.{instruction_of}
use Rattle.vg_processor.proofs.LoopLemmas.{given_more, made_at}
use Rattle.vg_processor.proofs.instructions.instructions_of.Goals as goal

pub loop-number-preserved : goal.loop-number-preserved
loop-number-preserved c =
    let setting = setting_in c.args.machine.now.setting.now.context.now in
    let all = c.args.plain.now.description.items in
    let known = known_of all in
    let n = c.loop-number.number in
    let item = c.index-table-number.result in
    let does =
    made_at (behaviour_of all known) all n c.in_ok-effect.effect item c.in_ok-effect.ensures
    ∙ ap (λ l. behaviour_of l known (get_or l n item)) (sym c.requires.table) in
    given_more (instruction_of setting known) setting.all n item c.in_ok-instruction.instruction c.loop-number.instructions c.push_some.new.items
    c.loop-number.invariant c.loop-number-test.true c.index-table-number.is (c.in_ok-instruction.ensures known does ∙ ap (instruction_of setting known) (sym c.index-table-number.is)) c.in_ok-push_some.ensures
