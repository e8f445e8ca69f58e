use Rattle.vg_inline.specs.Context.{items_of, known_in}
use Rattle.vg_inline.proofs.Greatest.{fitting_more}
use Rattle.vg_inline.proofs.instructions.greatest.Goals as goal

pub loop-item-preserved : goal.loop-item-preserved
loop-item-preserved c =
    let x = c.args.context.now in
    fitting_more x.keep (items_of x) (known_in x) (items_of x) c.loop-item.item-index c.loop-item.most c.in_ok-most.most c.item-item.result c.loop-item.invariant c.loop-item-test.true c.item-item.is c.in_ok-most.ensures.grows c.in_ok-most.ensures.fits
