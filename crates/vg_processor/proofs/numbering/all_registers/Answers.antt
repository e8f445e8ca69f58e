use Rattle.vg_processor.proofs.NumberLemmas.{counted_more}
use Rattle.vg_processor.proofs.numbering.all_registers.Goals as goal

pub loop-item-preserved : goal.loop-item-preserved
loop-item-preserved c =
    counted_more c.args.items.now c.loop-item.item-index c.item-item.result c.loop-item.registers c.in_ok-registers.registers
    c.loop-item.invariant c.loop-item-test.true c.item-item.is c.in_ok-registers.ensures
