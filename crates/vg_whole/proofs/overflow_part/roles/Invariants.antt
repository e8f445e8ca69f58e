use Rattle.std.proofs.Common.{◌≡◌, drop}
use Rattle.vg_names.specs.First.{first_of}
use Rattle.vg_names.specs.Unknown.{in_each}
use Rattle.vg_whole.specs.Overflow.{role_overflows}
use Rattle.vg_whole.specs.Worths.{constants_by}
use Rattle.vg_whole.proofs.overflow_part.roles.Given as goal

abbrev pub invariant-loop-one : goal.invariant-loop-one
invariant-loop-one l =
    first_of (in_each (role_overflows (constants_by l.table.items.now l.worths)) l.roles)
    ≡ first_of (in_each (role_overflows (constants_by l.table.items.now l.worths)) (drop l.one-index l.roles))
