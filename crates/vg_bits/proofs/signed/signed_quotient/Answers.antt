use Rattle.std.proofs.Common.{sym, ◌∙◌, ◌<◌, arith}
use Rattle.vg_bits.specs.BitValue.{bit_value, signed_value}
use Rattle.vg_bits.proofs.SignedValue.{quotient-same, quotient-other, signed_quotient-nonzero, signed_quotient-zero}
use Rattle.vg_bits.proofs.signed.signed_quotient.Goals as goal

pub returns-then-is_negative-clause-value : goal.returns-then-is_negative-clause-value
returns-then-is_negative-clause-value c =
    let nonzero : 0 < c.args.b = omega arith in
    quotient-same c.args.n (signed_value (bit_value c.args.n c.args.a)) (signed_value (bit_value c.args.n c.args.b)) _ _ _ _ _ c.is_negative.ensures c.is_negative-2.ensures c.magnitude.ensures.value c.magnitude-2.ensures.value c.magnitude.ensures.fits c.quotient-whole.ensures c.if-is_negative.true
    ∙ sym (signed_quotient-nonzero c.args.n c.args.a c.args.b nonzero)

pub returns-else-is_negative-clause-value : goal.returns-else-is_negative-clause-value
returns-else-is_negative-clause-value c =
    let nonzero : 0 < c.args.b = omega arith in
    c.difference.ensures
    ∙ quotient-other c.args.n (signed_value (bit_value c.args.n c.args.a)) (signed_value (bit_value c.args.n c.args.b)) _ _ _ _ _ c.is_negative.ensures c.is_negative-2.ensures c.magnitude.ensures.value c.magnitude-2.ensures.value c.magnitude.ensures.fits c.quotient-whole.ensures c.if-is_negative.false
    ∙ sym (signed_quotient-nonzero c.args.n c.args.a c.args.b nonzero)

pub returns-then-b-eq0-clause-value : goal.returns-then-b-eq0-clause-value
returns-then-b-eq0-clause-value c = c.ones.ensures ∙ sym (signed_quotient-zero c.args.n c.args.a c.args.b c.if-b-eq0.true)
