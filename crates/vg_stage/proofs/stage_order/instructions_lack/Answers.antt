-- This instruction lacks an act, or those behind it do.
use Rattle.std.proofs.Common.{◌||◌, ◌+◌, ap, drop, sym, ◌∙◌}
use Rattle.std.specs.List.{list_any}
use Rattle.vg_inline.specs.InPlace.{behaviour_of, known_of}
use Rattle.vg_type.specs.Setting.{setting_in}
use Rattle.vg_stage.specs.StageLack.{behaviour_lacks}
use Rattle.vg_stage.proofs.StageWhole.{passes_from}
use Rattle.vg_stage.proofs.stage_order.instructions_lack.Goals as goal

pub returns-then-behaviour_lacks : goal.returns-then-behaviour_lacks
returns-then-behaviour_lacks c =
    let all = c.args.plain.now.description.items in
    let lacks = behaviour_lacks (setting_in c.args.reads.now.context.now) c.args.reads.now.flags c.args.writes.now.flags in
    ap (λ b. b || list_any (λ item. lacks (behaviour_of all (known_of all) item)) (drop (c.loop-number.number + 1) all)) (sym c.if-behaviour_lacks.true ∙ c.behaviour_lacks.ensures)
    ∙ sym (passes_from lacks (behaviour_of all (known_of all)) all c.loop-number.number c.in_ok-effect.effect c.in_ok-effect.ensures)
    ∙ c.loop-number.invariant

pub loop-number-preserved : goal.loop-number-preserved
loop-number-preserved c =
    let all = c.args.plain.now.description.items in
    let lacks = behaviour_lacks (setting_in c.args.reads.now.context.now) c.args.reads.now.flags c.args.writes.now.flags in
    ap (λ b. b || list_any (λ item. lacks (behaviour_of all (known_of all) item)) (drop (c.loop-number.number + 1) all)) (sym c.if-behaviour_lacks.false ∙ c.behaviour_lacks.ensures)
    ∙ sym (passes_from lacks (behaviour_of all (known_of all)) all c.loop-number.number c.in_ok-effect.effect c.in_ok-effect.ensures)
    ∙ c.loop-number.invariant
