use Rattle.std.proofs.Common.{◌≡◌, drop}
use Rattle.vg_names.specs.First.{first_of}
use Rattle.vg_names.specs.Unknown.{in_each}
use Rattle.vg_whole.specs.Overflow.{item_overflows}
use Rattle.vg_whole.specs.Worths.{constants_by}
use Rattle.vg_whole.proofs.overflow_item.items.Given as goal

abbrev pub invariant-loop-number : goal.invariant-loop-number
invariant-loop-number l =
    first_of (in_each (item_overflows l.table.items.now (constants_by l.table.items.now l.worths)) l.table.items.now)
    ≡ first_of (in_each (item_overflows l.table.items.now (constants_by l.table.items.now l.worths)) (drop l.number l.table.items.now))
