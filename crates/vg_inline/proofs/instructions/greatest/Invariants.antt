use Rattle.vg_inline.specs.Context.{items_of, known_in}
use Rattle.vg_inline.proofs.Greatest.{Fitting}
use Rattle.vg_inline.proofs.instructions.greatest.Given as goal

abbrev pub invariant-loop-item : goal.invariant-loop-item
invariant-loop-item l = Fitting l.context.keep (items_of l.context) (known_in l.context) (items_of l.context) l.item-index l.most
