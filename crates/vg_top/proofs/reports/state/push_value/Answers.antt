use Rattle.vg_top.proofs.Digits.{value_fits}
use Rattle.vg_top.proofs.reports.state.push_value.Goals as goal

pub push_hexadecimal-requires-clause-fits : goal.push_hexadecimal-requires-clause-fits
push_hexadecimal-requires-clause-fits c =
    rw (c.value.ensures.value, c.bits.ensures.value, c.width.ensures.value) (value_fits c.args.value.width c.args.value.number c.value.ensures.below)
