use Rattle.std.proofs.Common.{◌+◌, Some, sym, ap, ◌∙◌, arith}
use Rattle.vg_text.proofs.Hexadecimal.{hexadecimal_at_short, hexadecimal_after_first, hexadecimal_after_more, hexadecimal_after_none, hexadecimal_after_all, more_below, pow_within, hex_digit-hex_value, hexadecimal-hexadecimal_at}
use Rattle.vg_text.proofs.number.hexadecimal_at.Goals as goal

pub returns-then-text-len-clause-exact : goal.returns-then-text-len-clause-exact
returns-then-text-len-clause-exact c = sym (hexadecimal_at_short c.args.digits c.args.text.now (omega arith))

pub loop-c-init : goal.loop-c-init
loop-c-init c = record {
  number = hexadecimal_after_first c.args.digits c.args.text.now c.split_at.result.0.now c.split_at.result.1.now (cc) (cc) (omega arith);
  below = omega arith;
}

pub returns-in_err-digit-clause-exact : goal.returns-in_err-digit-clause-exact
returns-in_err-digit-clause-exact c = rw c.from_residual.ensures (sym (sym c.loop-c.invariant.number ∙ hexadecimal_after_none c.loop-c.n c.loop-c.c-index c.split_at.result.0.now c.split_at.result.1.now (omega arith) (sym c.in_err-digit.ensures)))

pub overflow_mul-n : goal.overflow_mul-n
overflow_mul-n c = omega (arith, more_below c.loop-c.n 0 c.loop-c.c-index c.loop-c.invariant.below (omega arith), pow_within (c.loop-c.c-index + 1) (omega arith))

pub overflow_add-n : goal.overflow_add-n
overflow_add-n c =
    let digit = (hex_digit-hex_value _ _ (sym c.in_ok-digit.ensures)).1 in
    omega (arith, more_below c.loop-c.n c.in_ok-digit.digit c.loop-c.c-index c.loop-c.invariant.below digit, pow_within (c.loop-c.c-index + 1) (omega arith))

pub loop-c-preserved : goal.loop-c-preserved
loop-c-preserved c =
    let digit = (hex_digit-hex_value _ _ (sym c.in_ok-digit.ensures)).1 in
    record {
      number = hexadecimal_after_more c.loop-c.n c.loop-c.c-index c.from.result c.split_at.result.0.now c.split_at.result.1.now (omega arith) (sym c.in_ok-digit.ensures ∙ ap (λ d. Some d) (sym c.from.ensures)) ∙ c.loop-c.invariant.number;
      below = more_below c.loop-c.n c.from.result c.loop-c.c-index c.loop-c.invariant.below (omega (arith, digit));
    }

pub returns : goal.returns
returns c =
    let exact = sym c.loop-c.invariant.number ∙ hexadecimal_after_all c.loop-c.n c.loop-c.c-index c.split_at.result.0.now c.split_at.result.1.now (omega arith) in
    record {
      below = (hexadecimal-hexadecimal_at c.args.digits c.args.text.now (c.loop-c.n, c.split_at.result.1.now) exact).1;
      exact = sym exact;
    }
