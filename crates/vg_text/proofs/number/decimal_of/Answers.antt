use Rattle.std.proofs.Common.{◌^◌, sym, ap, ◌∙◌}
use Rattle.std.proofs.lemmas.Bool.{eqb-true, eqb-false}
use Rattle.vg_text.specs.Number.{option_below, decimal_of, decimal_after}
use Rattle.vg_text.proofs.Decimal.{decimal_of-nil, decimal_of-zero, decimal_of-leading_zero, decimal_of-no_leading_zero}
use Rattle.vg_text.proofs.number.decimal_of.Goals as goal

pub returns-in_err-first : goal.returns-in_err-first
returns-in_err-first c = rw c.from_residual.ensures (sym (ap (option_below (2 ^ 64)) (decimal_of-nil c.args.text.now c.in_err-first.ensures.cases)))

pub returns-then-is_empty : goal.returns-then-is_empty
returns-then-is_empty c =
    sym (ap (option_below (2 ^ 64)) (ap decimal_of c.in_ok-first.ensures.cases.0 ∙ decimal_of-zero c.in_ok-first.first.now c.in_ok-first.rest.now c.if-first-eq48.true (eqb-true _ _ (sym c.is_empty.ensures ∙ c.if-is_empty.true))))

pub returns-else-is_empty : goal.returns-else-is_empty
returns-else-is_empty c =
    sym (ap (option_below (2 ^ 64)) (ap decimal_of c.in_ok-first.ensures.cases.0 ∙ decimal_of-leading_zero c.in_ok-first.first.now c.in_ok-first.rest.now c.if-first-eq48.true (eqb-false _ _ (sym c.is_empty.ensures ∙ c.if-is_empty.false))))

pub returns : goal.returns
returns c =
    let text_is = c.in_ok-first.ensures.cases.0 in
    c.digits_value.ensures
    ∙ ap (λ t. option_below (2 ^ 64) (decimal_after 0 t)) text_is
    ∙ sym (ap (option_below (2 ^ 64)) (ap decimal_of text_is ∙ decimal_of-no_leading_zero c.in_ok-first.first.now c.in_ok-first.rest.now c.if-first-eq48.false))
