use Rattle.std.proofs.Common.{sym, ◌∙◌, ◌≡◌, ◌-◌, ◌^◌, ◌/◌, ap, ℕ}
use Rattle.vg_bits.proofs.SignedValue.{shifted-negative, shifted-not_negative}
use Rattle.vg_bits.proofs.signed.signed_right.Goals as goal

pub returns-then-is_negative-clause-value : goal.returns-then-is_negative-clause-value
returns-then-is_negative-clause-value c =
    let width : c.ones.result ≡ 2 ^ c.args.n - 1 = c.ones.ensures in
    let rest : c.ones-then-is_negative.result - c.args.a ≡ 2 ^ c.args.n - 1 - c.args.a =
    ap (λ (k : ℕ). k - c.args.a) c.ones-then-is_negative.ensures
    in
    let shifted : c.right.result ≡ (2 ^ c.args.n - 1 - c.args.a) / 2 ^ c.args.k =
    c.right.ensures ∙ ap (λ (k : ℕ). k / 2 ^ c.args.k) rest
    in
    let e : c.ones.result - c.right.result ≡ 2 ^ c.args.n - 1 - (2 ^ c.args.n - 1 - c.args.a) / 2 ^ c.args.k = cc in
    e ∙ sym (shifted-negative c.args.n c.args.a c.args.k c.requires.fits (sym c.is_negative.ensures ∙ c.if-is_negative.true))

pub returns-else-is_negative-clause-value : goal.returns-else-is_negative-clause-value
returns-else-is_negative-clause-value c =
    c.right-else-is_negative.ensures
    ∙ sym (shifted-not_negative c.args.n c.args.a c.args.k c.requires.fits (sym c.is_negative.ensures ∙ c.if-is_negative.false))
