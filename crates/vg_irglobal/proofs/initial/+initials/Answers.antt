-- By the first lexeme.
use Rattle.std.proofs.Common.{◌≡◌, sym, ◌∙◌, arith}
use Rattle.vg_irparse.specs.Placed.{placed}
use Rattle.vg_irparse.specs.ReadingType.{most_brackets}
use Rattle.vg_irglobal.proofs.Within.{some_elements, some_fields, no_bracket}
use Rattle.vg_irglobal.proofs.initial.+initials.Goals as goal

pub initial_within-returns-then-next_is : goal.initial_within-returns-then-next_is
initial_within-returns-then-next_is t c =
    rw (some_elements c.args.depth c.args.width most_brackets (placed c.args.text.now c.args.tokens.now) (omega (arith, c.if-depth-eq0.false)) (sym c.next_is.ensures ∙ c.if-next_is.true)) c.elements_at.ensures

pub initial_within-returns-then-next_is-2 : goal.initial_within-returns-then-next_is-2
initial_within-returns-then-next_is-2 t c =
    rw (some_fields c.args.depth c.args.width most_brackets (placed c.args.text.now c.args.tokens.now) (omega (arith, c.if-depth-eq0-2.false))
    (sym c.next_is.ensures ∙ c.if-next_is.false) (sym c.next_is-2.ensures ∙ c.if-next_is-2.true)) c.fields_at.ensures

pub initial_within-returns : goal.initial_within-returns
initial_within-returns t c =
    rw (no_bracket c.args.depth c.args.width most_brackets (placed c.args.text.now c.args.tokens.now)
    (sym c.next_is.ensures ∙ c.if-next_is.false) (sym c.next_is-2.ensures ∙ c.if-next_is-2.false)) c.simple_at.ensures
