use Rattle.std.proofs.Common.{◌≡◌, drop}
use Rattle.vg_inline.specs.InPlace.{known_of}
use Rattle.vg_names.specs.First.{first_of}
use Rattle.vg_names.specs.Unknown.{in_each}
use Rattle.vg_tree.specs.Access.{in_instruction, second_writes}
use Rattle.vg_type.specs.Item.{setting_of}
use Rattle.vg_access.proofs.two_writes.first_break.Given as goal

abbrev pub invariant-loop-number : goal.invariant-loop-number
invariant-loop-number l =
    let all = l.plain.description.items in
    let places = in_instruction (setting_of all) (known_of all) second_writes in
    first_of (in_each places all) ≡ first_of (in_each places (drop l.number all))
