use Rattle.std.proofs.Common.{◌≡◌, ℕ, ◌+◌, ◌-◌, ◌*◌, ◌^◌, Some, sym, ap, ◌∙◌, arith}
use Rattle.vg_text.specs.Number.{hexadecimal_at}
use Rattle.vg_text.proofs.Hexadecimal.{hexadecimal_at-add, hexadecimal_at-add_none, hexadecimal_at-add_later_none, wide_number, hexadecimal-hexadecimal_at}
use Rattle.vg_text.proofs.number.wide_hexadecimal_at.Goals as goal

pub returns-in_err-high-clause-exact : goal.returns-in_err-high-clause-exact
returns-in_err-high-clause-exact c =
    let j : ℕ = c.saturating_sub-front.result in
    let parts : j + (c.args.digits - j) ≡ c.args.digits = omega arith in
    rw c.from_residual.ensures (sym (ap (λ m. hexadecimal_at m c.args.text.now) (sym parts) ∙ hexadecimal_at-add_none j (c.args.digits - j) c.args.text.now (sym c.in_err-high.ensures.exact)))

pub returns-in_err-low-clause-exact : goal.returns-in_err-low-clause-exact
returns-in_err-low-clause-exact c =
    let j : ℕ = c.saturating_sub-front.result in
    let parts : j + (c.args.digits - j) ≡ c.args.digits = omega arith in
    rw c.from_residual-in_err-low.ensures
    (sym (ap (λ m. hexadecimal_at m c.args.text.now) (sym parts) ∙ hexadecimal_at-add_later_none j (c.args.digits - j) c.args.text.now (c.in_ok-high.high, c.in_ok-high.text.now) (sym c.in_ok-high.ensures.exact) (sym c.in_err-low.ensures.exact)))

pub returns : goal.returns
returns c =
    let j : ℕ = c.saturating_sub-front.result in
    let k : ℕ = c.args.digits - j in
    let parts : j + k ≡ c.args.digits = omega arith in
    let first : hexadecimal_at j c.args.text.now ≡ Some (c.in_ok-high.high, c.in_ok-high.text.now) = sym c.in_ok-high.ensures.exact in
    let second : hexadecimal_at k c.in_ok-high.text.now ≡ Some (c.in_ok-low.low, c.in_ok-low.rest.now) = sym c.in_ok-low.ensures.exact in
    let number : c.in_ok-high.high * 16 ^ k + c.in_ok-low.low ≡ c.from.result * 2 ^ 64 + c.from-2.result = omega (arith, wide_number c.args.digits j k c.in_ok-high.high (omega arith) parts c.in_ok-high.ensures.below) in
    let exact =
    ap (λ m. hexadecimal_at m c.args.text.now) (sym parts)
    ∙ hexadecimal_at-add j k c.args.text.now (c.in_ok-high.high, c.in_ok-high.text.now) (c.in_ok-low.low, c.in_ok-low.rest.now) first second
    ∙ ap (λ m. Some (m, c.in_ok-low.rest.now)) number in
    record {
      below = (hexadecimal-hexadecimal_at c.args.digits c.args.text.now (c.from.result * 2 ^ 64 + c.from-2.result, c.in_ok-low.rest.now) exact).1;
      exact = sym exact;
    }
