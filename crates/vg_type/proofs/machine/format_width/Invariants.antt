use Rattle.std.proofs.Common.{◌≡◌, drop}
use Rattle.vg_inline.specs.Context.{items_of}
use Rattle.vg_type.specs.Item.{first_format}
use Rattle.vg_type.proofs.machine.format_width.Given as goal

abbrev pub invariant-loop-item : goal.invariant-loop-item
invariant-loop-item l = first_format (items_of l.context) ≡ first_format (drop l.item-index (items_of l.context))
