use Rattle.std.proofs.Common.{sym, ◌∙◌}
use Rattle.vg_bits.proofs.SignedValue.{abs-negative, abs-not_negative}
use Rattle.vg_bits.proofs.signed.magnitude.Goals as goal

pub returns-then-is_negative-clause-value : goal.returns-then-is_negative-clause-value
returns-then-is_negative-clause-value c =
    c.difference.ensures ∙ sym (abs-negative c.args.n c.args.a c.requires.fits (sym c.is_negative.ensures ∙ c.if-is_negative.true))

pub returns-else-is_negative-clause-value : goal.returns-else-is_negative-clause-value
returns-else-is_negative-clause-value c =
    sym (abs-not_negative c.args.n c.args.a c.requires.fits (sym c.is_negative.ensures ∙ c.if-is_negative.false))
