use Rattle.std.proofs.Common.{◌≡◌, ◌-◌, refl, sym, ap, ◌∙◌, arith}
use Rattle.vg_top.specs.Position.{position_from}
use Rattle.vg_top.proofs.Positions.{at_the_end, behind_feed, behind_byte, before, stopped}
use Rattle.vg_top.proofs.position.position.Goals as goal
use Rattle.vg_top.proofs.position.position.Goals.{then-byte-eq10, else-byte-eq10}

pub loop-left-init : goal.loop-left-init
loop-left-init c = (refl, omega arith, omega arith)

pub returns-in_default : goal.returns-in_default
returns-in_default c = sym (at_the_end c.loop-left.line c.loop-left.column c.loop-left.left c.loop-left.rest.now c.in_default.ensures.cases) ∙ c.loop-left.invariant.0

pub overflow_add-line : goal.overflow_add-line
overflow_add-line c = omega (arith, c.loop-left.invariant.1, c.requires, c.in-Some.ensures.cases.1)

pub overflow_add-column : goal.overflow_add-column
overflow_add-column c = omega (arith, c.loop-left.invariant.2, c.requires, c.in-Some.ensures.cases.1)

pub loop-left-preserved : goal.loop-left-preserved
loop-left-preserved c =
    let line = c.loop-left.line in
    let column = c.loop-left.column in
    let left = c.loop-left.left in
    let rest : c.loop-left.rest.now ≡ _ = c.in-Some.ensures.cases.0 in
    elim c.if-byte-eq10.branch [
      | then-byte-eq10 w ↦ (
        (λ j. position_from (w.line-is j) (w.column-is j) (left - 1) c.in-Some.others.now)
            ∙ sym (behind_feed line column left (left - 1) c.in-Some.byte.now c.in-Some.others.now (before left c.loop-left-test.true) w.if-byte-eq10.true)
            ∙ sym (ap (position_from line column left) rest) ∙ c.loop-left.invariant.0,
        omega (arith, w.line-is, c.loop-left.invariant.1, c.in-Some.ensures.cases.1),
        omega (arith, w.column-is, c.loop-left.invariant.2, c.in-Some.ensures.cases.1),
      )
      | else-byte-eq10 w ↦ (
        (λ j. position_from (w.line-is j) (w.column-is j) (left - 1) c.in-Some.others.now)
            ∙ sym (behind_byte line column left (left - 1) c.in-Some.byte.now c.in-Some.others.now (before left c.loop-left-test.true) w.if-byte-eq10.false)
            ∙ sym (ap (position_from line column left) rest) ∙ c.loop-left.invariant.0,
        omega (arith, w.line-is, c.loop-left.invariant.1, c.in-Some.ensures.cases.1),
        omega (arith, w.column-is, c.loop-left.invariant.2, c.in-Some.ensures.cases.1),
      )
    ]

pub returns : goal.returns
returns c = sym (stopped c.loop-left.line c.loop-left.column c.loop-left.left c.loop-left.rest.now (omega (arith, c.loop-left-test.false))) ∙ c.loop-left.invariant.0
