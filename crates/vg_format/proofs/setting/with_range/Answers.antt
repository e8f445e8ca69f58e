use Rattle.vg_format.proofs.BitLemmas.{range_code}
use Rattle.vg_format.proofs.setting.with_range.Goals as goal

pub returns : goal.returns
returns c = range_code c.args.word c.args.high c.args.low c.args.bits c.requires.order c.requires.high c.requires.word c.requires.bits
