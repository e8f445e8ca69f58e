use Rattle.std.proofs.Common.{sym, ◌∙◌, ◌≡◌, ◌≤◌, ◌-◌, ◌^◌, arith}
use Rattle.std.proofs.Math.Nat.{pow-le-pow_right}
use Rattle.vg_bits.proofs.Modular.{fits_wider}
use Rattle.vg_bits.proofs.SignedValue.{extended-negative, extended-not_negative}
use Rattle.vg_bits.proofs.signed.signed_extended.Goals as goal

pub returns-else-is_negative-clause-fits : goal.returns-else-is_negative-clause-fits
returns-else-is_negative-clause-fits c = fits_wider c.args.a c.args.n c.args.w c.requires.fits c.requires.wider

pub returns-else-is_negative-clause-value : goal.returns-else-is_negative-clause-value
returns-else-is_negative-clause-value c =
    sym (extended-not_negative c.args.n c.args.w c.args.a c.requires.wider c.requires.fits (sym c.is_negative.ensures ∙ c.if-is_negative.false))

pub returns-then-is_negative-clause-value : goal.returns-then-is_negative-clause-value
returns-then-is_negative-clause-value c =
    let e : c.ones.result - (c.ones-then-is_negative.result - c.args.a) ≡ 2 ^ c.args.w - 1 - (2 ^ c.args.n - 1 - c.args.a) = omega arith in
    e ∙ sym (extended-negative c.args.n c.args.w c.args.a c.requires.wider c.requires.fits (sym c.is_negative.ensures ∙ c.if-is_negative.true))

pub overflow_sub-result-then-is_negative : goal.overflow_sub-result-then-is_negative
overflow_sub-result-then-is_negative c =
    let p : 2 ^ c.args.n ≤ 2 ^ c.args.w = pow-le-pow_right (omega arith) c.requires.wider in
    omega arith
