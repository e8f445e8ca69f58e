use Rattle.vg_type.proofs.WidthLemmas.{below_by_quotient, below_wide}
use Rattle.vg_declare.proofs.abi_role.is_below.Goals as goal

pub returns-then-width-ge128 : goal.returns-then-width-ge128
returns-then-width-ge128 c = below_wide c.args.number c.args.width c.ranges.number.fits c.if-width-ge128.true

pub returns : goal.returns
returns c = below_by_quotient c.args.number c.args.width
