use Rattle.vg_format.proofs.MaskLemmas.{range_ones}
use Rattle.vg_format.proofs.pattern.range_mask.Goals as goal

pub returns : goal.returns
returns c = range_ones c.args.high c.args.low c.requires.order c.requires.high
