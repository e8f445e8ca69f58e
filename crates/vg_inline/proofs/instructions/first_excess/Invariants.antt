use Rattle.std.proofs.Common.{◌≡◌, drop}
use Rattle.vg_names.specs.First.{first_of}
use Rattle.vg_names.specs.Unknown.{in_each}
use Rattle.vg_inline.specs.Context.{items_of, known_in}
use Rattle.vg_inline.specs.KeptBehaviour.{item_kept_excess}
use Rattle.vg_inline.proofs.instructions.first_excess.Given as goal

abbrev pub invariant-loop-item : goal.invariant-loop-item
invariant-loop-item l =
    first_of (in_each (item_kept_excess l.context.keep (items_of l.context) (known_in l.context)) (items_of l.context))
    ≡ first_of (in_each (item_kept_excess l.context.keep (items_of l.context) (known_in l.context)) (drop l.item-index (items_of l.context)))
