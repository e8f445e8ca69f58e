use Rattle.vg_bits.proofs.SignedValue.{int_lt-same}
use Rattle.vg_bits.proofs.signed.is_signed_below.Goals as goal

pub returns-then-negative-is_negative : goal.returns-then-negative-is_negative
returns-then-negative-is_negative c =
    int_lt-same c.args.n c.args.a c.args.b _ _ c.requires.left c.requires.right c.is_negative-negative.ensures c.is_negative.ensures c.if-negative-is_negative.true
