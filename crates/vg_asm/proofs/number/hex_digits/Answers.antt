use Rattle.std.proofs.Common.{◌≡◌, ◌+◌, ◌-◌, ◌/◌, ◌^◌, ◌<◌, ◌≤◌, ℕ, ap, sym, ◌∙◌, refl, inl, inr, subst, arith}
use Rattle.vg_text.proofs.Hexadecimal.{rest_of_digits}
use Rattle.vg_grammar.proofs.Digits.{digits_needed, few_digits, quotient_none, quotient_some}
use Rattle.vg_asm.proofs.number.hex_digits.Goals as goal

pub loop-rest-init : goal.loop-rest-init
loop-rest-init c = record { rest = refl; some = omega arith; most = omega arith; least = inl refl }

pub loop-rest-preserved : goal.loop-rest-preserved
loop-rest-preserved c =
    let digits = c.loop-rest.digits in
    let inv = c.loop-rest.invariant in
    let some : 0 < c.args.n / 16 ^ digits = omega (arith, inv.rest, c.loop-rest-test.true) in
    let above : 16 ^ digits ≤ c.args.n = quotient_some c.args.n digits some in
    let few : digits < 16 = few_digits c.args.n digits (omega arith) above in
    let same : digits + 1 - 1 ≡ digits = omega arith in
    record {
      rest = rest_of_digits c.args.n digits c.loop-rest.rest inv.rest;
      some = omega arith;
      most = omega arith;
      least = inr (subst (λ (k : ℕ). 16 ^ k ≤ c.args.n) (sym same) above);
    }

pub returns-clause-room : goal.returns-clause-room
returns-clause-room c = quotient_none c.args.n c.loop-rest.digits (omega (arith, c.loop-rest.invariant.rest, c.loop-rest-test.false))

pub returns-clause-none_in_front : goal.returns-clause-none_in_front
returns-clause-none_in_front c =
    let inv = c.loop-rest.invariant in
    digits_needed c.loop-rest.digits c.args.n inv.some inv.most inv.least (quotient_none c.args.n c.loop-rest.digits (omega (arith, inv.rest, c.loop-rest-test.false)))
