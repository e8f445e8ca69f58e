use Rattle.std.proofs.Common.{◌+◌, arith}
use Rattle.vg_declare.proofs.MaskLemmas.{mask_fits, nat_span, span_computed}
use Rattle.vg_declare.proofs.mask.mask_of.Goals as goal

pub overflow_sub-result : goal.overflow_sub-result
overflow_sub-result c =
    let fits = c.requires.width in
    mask_fits (c.min-above.result + 1) c.args.span.low (omega (arith, c.min-above.ensures)) (omega (arith, nat_span c.args.span c.requires.span, c.min-above.ensures))

pub returns : goal.returns
returns c = span_computed c.args.width c.args.span c.min-above.result c.requires.width c.requires.span c.if-span-width.false c.min-above.ensures
