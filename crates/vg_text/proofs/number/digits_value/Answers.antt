use Rattle.std.proofs.Common.{◌≡◌, ◌+◌, ◌*◌, ◌^◌, drop, sym, ap, ◌∙◌, arith}
use Rattle.vg_text.specs.Number.{decimal_after, option_below}
use Rattle.vg_text.proofs.Decimal.{decimal_after_more, decimal_after_none, decimal_after_all, option_below-overflow, option_below-small}
use Rattle.vg_text.proofs.number.digits_value.Goals as goal

pub returns-in_err-digit : goal.returns-in_err-digit
returns-in_err-digit c = rw c.from_residual.ensures (sym (ap (option_below (2 ^ 64)) (sym c.loop-c.invariant.number ∙ decimal_after_none c.loop-c.n c.loop-c.c-index c.args.text.now (omega arith) (sym c.in_err-digit.ensures))))

pub returns-in_err-shifted : goal.returns-in_err-shifted
returns-in_err-shifted c = rw c.from_residual-in_err-shifted.ensures (sym (ap (option_below (2 ^ 64)) (sym c.loop-c.invariant.number) ∙ option_below-overflow (2 ^ 64) c.loop-c.n c.loop-c.c-index c.in_ok-digit.digit c.args.text.now (omega arith) (sym c.in_ok-digit.ensures) (λ below. c.in_err-shifted.ensures (omega (arith, below)))))

pub returns-in_err-n : goal.returns-in_err-n
returns-in_err-n c = rw c.from_residual-in_err-n.ensures (sym (ap (option_below (2 ^ 64)) (sym c.loop-c.invariant.number) ∙ option_below-overflow (2 ^ 64) c.loop-c.n c.loop-c.c-index c.in_ok-digit.digit c.args.text.now (omega arith) (sym c.in_ok-digit.ensures) (λ below. c.in_err-n.ensures (omega (arith, below, c.in_ok-shifted.ensures.1)))))

pub loop-c-preserved : goal.loop-c-preserved
loop-c-preserved c =
    let number : c.in_ok-n.n ≡ c.loop-c.n * 10 + c.in_ok-digit.digit = omega (arith, c.in_ok-n.ensures.1, c.in_ok-shifted.ensures.1) in
    record {
      number = ap (λ m. decimal_after m (drop (c.loop-c.c-index + 1) c.args.text.now)) number
          ∙ decimal_after_more c.loop-c.n c.loop-c.c-index c.in_ok-digit.digit c.args.text.now (omega arith) (sym c.in_ok-digit.ensures)
          ∙ c.loop-c.invariant.number;
      below = omega (arith, c.in_ok-n.ensures.0, c.in_ok-n.ensures.1);
    }

pub returns : goal.returns
returns c = sym (ap (option_below (2 ^ 64)) (sym c.loop-c.invariant.number ∙ decimal_after_all c.loop-c.n c.loop-c.c-index c.args.text.now (omega arith)) ∙ option_below-small c.loop-c.n (2 ^ 64) c.loop-c.invariant.below)
