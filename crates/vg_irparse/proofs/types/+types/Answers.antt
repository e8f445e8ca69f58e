-- A field more; and what the first lexeme of a type says.
use Rattle.std.proofs.Common.{◌≡◌, ◌++◌, ◌∷◌, [], ◌∙◌, ap, arith}
use Rattle.std.proofs.lemmas.Result.{err_from_is_err_and}
use Rattle.vg_irparse.specs.Placed.{placed, placed_one}
use Rattle.vg_irparse.specs.ReadingType.{part_within}
use Rattle.vg_irparse.proofs.Fields.{fields_fail, last_field, more_field, within_none, within_simple, within_bracketed}
use Rattle.vg_irparse.proofs.types.+types.Goals as goal

pub fields_at-returns-in_err-field : goal.fields_at-returns-in_err-field
fields_at-returns-in_err-field t c =
    let p = err_from_is_err_and c.from_residual.result c.from_residual.ensures.1 in
    rw (p.1, p.2)
    (fields_fail c.in_err-field.field-0.0 (part_within c.args.depth) c.loop-fuel.fuel c.loop-fuel.types c.loop-fuel.leaves (placed c.args.text.now c.loop-fuel.rest.now) _
    c.loop-fuel-test.true c.in_err-field.ensures c.loop-fuel.invariant)

pub fields_at-returns-then-last : goal.fields_at-returns-then-last
fields_at-returns-then-last t c =
    last_field (part_within c.args.depth) c.loop-fuel.fuel c.loop-fuel.types c.loop-fuel.leaves (placed c.args.text.now c.loop-fuel.rest.now) _
    ((c.in_ok-field.field, c.in_ok-field.last), placed c.args.text.now c.in_ok-field.behind.now) _ _
    c.loop-fuel-test.true c.loop-fuel.invariant c.in_ok-field.ensures c.if-last.true c.in_ok-push.ensures.ok c.in_ok-append.ensures

pub fields_at-loop-fuel-preserved : goal.fields_at-loop-fuel-preserved
fields_at-loop-fuel-preserved t c =
    more_field (part_within c.args.depth) c.loop-fuel.fuel c.loop-fuel.types c.loop-fuel.leaves (placed c.args.text.now c.loop-fuel.rest.now) _
    ((c.in_ok-field.field, c.in_ok-field.last), placed c.args.text.now c.in_ok-field.behind.now) _ _
    c.loop-fuel-test.true c.loop-fuel.invariant c.in_ok-field.ensures c.if-last.false c.in_ok-push.ensures.ok c.in_ok-append.ensures

pub part_within-returns-in_default : goal.part_within-returns-in_default
part_within-returns-in_default t c = within_none c.args.depth c.args.wanted c.args.text.now c.args.tokens.now (omega arith) c.in_default.ensures.cases

pub part_within-returns-in_ok-push-in-Some-2 : goal.part_within-returns-in_ok-push-in-Some-2
part_within-returns-in_ok-push-in-Some-2 t c =
    within_simple c.args.depth c.args.wanted c.args.text.now c.args.tokens.now c.in-Some.first.now c.in-Some.rest.now _ _ c.in-Some-2.ty _
    (omega arith) c.in-Some.ensures.cases.0 c.piece.ensures c.in_ok-ty.ensures c.in-Some-2.is
    (c.in_ok-push-in-Some-2.ensures.ok ∙ (ap (λ z. z ++ c.spot.result ∷ []) c.new-leaves.ensures ∙ ap (λ s. s ∷ []) c.spot.ensures))

pub part_within-returns-in-None : goal.part_within-returns-in-None
part_within-returns-in-None t c =
    rw (within_bracketed c.args.depth c.args.wanted c.args.text.now c.args.tokens.now c.in-Some.first.now c.in-Some.rest.now _ _
    (omega arith) c.in-Some.ensures.cases.0 c.piece.ensures c.in_ok-ty.ensures c.in-None.is) c.bracketed_at.ensures
