use Rattle.std.proofs.Common.{◌≡◌, drop}
use Rattle.std.specs.List.{list_any}
use Rattle.vg_ast.specs.declared.item.Item.{Item}
use Rattle.vg_inline.specs.InPlace.{behaviour_of, known_of}
use Rattle.vg_type.specs.Setting.{setting_in}
use Rattle.vg_stage.specs.StageLack.{behaviour_lacks}
use Rattle.vg_stage.proofs.stage_order.instructions_lack.Given as goal

abbrev pub invariant-loop-number : goal.invariant-loop-number
invariant-loop-number l =
    let all = l.plain.description.items in
    let lacks = λ (item : Item). behaviour_lacks (setting_in l.reads.context.now) l.reads.flags l.writes.flags (behaviour_of all (known_of all) item) in
    list_any lacks (drop l.number all) ≡ list_any lacks all
