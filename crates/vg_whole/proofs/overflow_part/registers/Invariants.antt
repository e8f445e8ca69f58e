use Rattle.std.proofs.Common.{◌≡◌, drop}
use Rattle.vg_names.specs.First.{first_of}
use Rattle.vg_names.specs.Unknown.{in_each}
use Rattle.vg_whole.specs.Overflow.{register_overflows}
use Rattle.vg_whole.specs.Worths.{constants_by}
use Rattle.vg_whole.proofs.overflow_part.registers.Given as goal

abbrev pub invariant-loop-register : goal.invariant-loop-register
invariant-loop-register l =
    first_of (in_each (register_overflows (constants_by l.table.items.now l.worths)) l.registers)
    ≡ first_of (in_each (register_overflows (constants_by l.table.items.now l.worths)) (drop l.register-index l.registers))
