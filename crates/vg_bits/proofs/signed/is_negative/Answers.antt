use Rattle.std.proofs.Common.{◌≡◌, ◌-◌, ◌*◌, ◌%◌, ◌^◌, nat_le, arith, ap, ◌∙◌, ℕ}
use Rattle.std.proofs.lemmas.Nat.{one_shl}
use Rattle.vg_bits.proofs.SignedValue.{nat_le-top}
use Rattle.vg_bits.proofs.signed.is_negative.Goals as goal

pub returns-then-n-le64 : goal.returns-then-n-le64
returns-then-n-le64 c =
    let top : 1 * 2 ^ (c.args.n - 1) % 18446744073709551616 ≡ 2 ^ (c.args.n - 1) = one_shl (c.args.n - 1) 64 (omega arith) in
    ap (λ (k : ℕ). nat_le k c.narrow.result) top
    ∙ ap (λ (k : ℕ). nat_le (2 ^ (c.args.n - 1)) k) c.narrow.ensures
    ∙ nat_le-top c.args.n c.args.a c.requires.fits

pub returns-else-n-le64 : goal.returns-else-n-le64
returns-else-n-le64 c =
    let top : 1 * 2 ^ (c.args.n - 1) % 340282366920938463463374607431768211456 ≡ 2 ^ (c.args.n - 1) =
    one_shl (c.args.n - 1) 128 (omega arith)
    in
    ap (λ (k : ℕ). nat_le k c.args.a) top ∙ nat_le-top c.args.n c.args.a c.requires.fits
