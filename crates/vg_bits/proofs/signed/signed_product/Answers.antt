use Rattle.std.proofs.Common.{sym, ◌∙◌, ◌*◌}
use Rattle.vg_bits.specs.BitValue.{bit_value, signed_value}
use Rattle.vg_bits.proofs.SignedValue.{product-same, product-other, long_product-signed}
use Rattle.vg_bits.proofs.signed.signed_product.Goals as goal

pub returns-then-is_negative-clause-value : goal.returns-then-is_negative-clause-value
returns-then-is_negative-clause-value c =
    product-same (2 * c.args.n) (signed_value (bit_value c.args.n c.args.a)) (signed_value (bit_value c.args.n c.args.b)) _ _ _ _ _ c.is_negative.ensures c.is_negative-2.ensures c.magnitude.ensures.value c.magnitude-2.ensures.value c.unsigned_product-whole.ensures.fits c.unsigned_product-whole.ensures.value c.if-is_negative.true
    ∙ sym (long_product-signed c.args.n c.args.a c.args.b)

pub returns-else-is_negative-clause-value : goal.returns-else-is_negative-clause-value
returns-else-is_negative-clause-value c =
    c.difference.ensures
    ∙ product-other (2 * c.args.n) (signed_value (bit_value c.args.n c.args.a)) (signed_value (bit_value c.args.n c.args.b)) _ _ _ _ _ c.is_negative.ensures c.is_negative-2.ensures c.magnitude.ensures.value c.magnitude-2.ensures.value c.unsigned_product-whole.ensures.fits c.unsigned_product-whole.ensures.value c.if-is_negative.false
    ∙ sym (long_product-signed c.args.n c.args.a c.args.b)
