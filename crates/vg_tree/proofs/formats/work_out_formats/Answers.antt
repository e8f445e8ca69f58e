use Rattle.vg_tree.proofs.FormatLemmas.{one_more}
use Rattle.vg_tree.proofs.formats.work_out_formats.Goals as goal

pub loop-item-preserved : goal.loop-item-preserved
loop-item-preserved c =
    one_more c.args.items.now c.loop-item.item-index c.loop-item.formats c.in_ok-formats.formats c.loop-item.table c.push.new.self c.item-item.result
    c.loop-item.invariant c.loop-item-test.true c.item-item.is c.in_ok-push.ensures.ok c.in_ok-formats.ensures
