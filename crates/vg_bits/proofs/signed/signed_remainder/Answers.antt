use Rattle.std.proofs.Common.{sym, ◌∙◌, ◌<◌, arith}
use Rattle.vg_bits.specs.BitValue.{bit_value, signed_value}
use Rattle.vg_bits.proofs.SignedValue.{remainder-negative, remainder-not_negative, signed_remainder-nonzero, signed_remainder-zero}
use Rattle.vg_bits.proofs.signed.signed_remainder.Goals as goal

pub returns-then-is_negative-clause-value : goal.returns-then-is_negative-clause-value
returns-then-is_negative-clause-value c =
    let nonzero : 0 < c.args.b = omega arith in
    c.difference.ensures
    ∙ remainder-negative c.args.n (signed_value (bit_value c.args.n c.args.a)) (signed_value (bit_value c.args.n c.args.b)) _ _ _ (sym c.is_negative.ensures ∙ c.if-is_negative.true) c.magnitude.ensures.value c.magnitude-2.ensures.value c.magnitude.ensures.fits c.remainder-rest.ensures
    ∙ sym (signed_remainder-nonzero c.args.n c.args.a c.args.b nonzero)

pub returns-else-is_negative-clause-value : goal.returns-else-is_negative-clause-value
returns-else-is_negative-clause-value c =
    let nonzero : 0 < c.args.b = omega arith in
    remainder-not_negative c.args.n (signed_value (bit_value c.args.n c.args.a)) (signed_value (bit_value c.args.n c.args.b)) _ _ _ (sym c.is_negative.ensures ∙ c.if-is_negative.false) c.magnitude.ensures.value c.magnitude-2.ensures.value c.magnitude.ensures.fits c.remainder-rest.ensures
    ∙ sym (signed_remainder-nonzero c.args.n c.args.a c.args.b nonzero)

pub returns-then-b-eq0-clause-value : goal.returns-then-b-eq0-clause-value
returns-then-b-eq0-clause-value c = sym (signed_remainder-zero c.args.n c.args.a c.args.b c.if-b-eq0.true)
