use Rattle.vg_inline.specs.InPlace.{known_of}
use Rattle.vg_stage.proofs.IndexLemmas.{LeastLeft}
use Rattle.vg_tree.specs.Access.{in_instruction, second_readings}
use Rattle.vg_type.specs.Item.{setting_of}
use Rattle.vg_access.proofs.two_accesses.least_break.Given as goal

abbrev pub invariant-loop-number : goal.invariant-loop-number
invariant-loop-number l =
    let all = l.plain.description.items in
    LeastLeft (in_instruction (setting_of all) (known_of all) second_readings) all l.number l.first
