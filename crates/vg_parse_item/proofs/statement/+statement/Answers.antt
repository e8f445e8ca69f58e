use Rattle.std.proofs.Common.{◌≡◌, ◌-◌, ◌++◌, ◌∷◌, [], length, sym, ◌∙◌, ap, arith, Some, None}
use Rattle.vg_ast.specs.Placed.{placed}
use Rattle.vg_parse_item.specs.ReadingStatement.{statements_at, statement_within}
use Rattle.vg_parse_item.proofs.Statements.{with_fuel, without_fuel, statements_whole, statements_end, statements_close, statements_stop, statements_more}
use Rattle.vg_parse_item.proofs.statement.+statement.Goals as goal

pub statements_at-loop-left-init : goal.statements_at-loop-left-init
statements_at-loop-left-init t c =
    ap (λ front. statements_at (length c.args.tokens.now) (statement_within c.args.fuel) front 0 (placed c.args.tokens.now)) c.new-front.ensures
    ∙ statements_whole (statement_within c.args.fuel) c.args.tokens.now

pub statements_at-returns-in-Some : goal.statements_at-returns-in-Some
statements_at-returns-in-Some t c =
    sym c.loop-left.invariant
    ∙ statements_close (statement_within c.args.fuel) c.loop-left.left c.loop-left.front c.loop-left.deepest (placed c.loop-left.rest.now)
    (c.in-Some.field-0-0, placed c.in-Some.behind.now) c.loop-left-test.true c.in-Some.ensures

pub statements_at-returns-in_default-2 : goal.statements_at-returns-in_default-2
statements_at-returns-in_default-2 t c =
    let none : statement_within c.args.fuel (placed c.loop-left.rest.now) ≡ None = rw c.in_default-2.is at c.in_ok-statement.ensures in
    sym c.loop-left.invariant
    ∙ statements_stop (statement_within c.args.fuel) c.loop-left.left c.loop-left.front c.loop-left.deepest (placed c.loop-left.rest.now) c.in_default.ensures none

pub statements_at-loop-left-preserved : goal.statements_at-loop-left-preserved
statements_at-loop-left-preserved t c =
    let found : statement_within c.args.fuel (placed c.loop-left.rest.now) ≡ Some (c.in-Some-2.statement, placed c.in-Some-2.behind.now) = rw c.in-Some-2.is at c.in_ok-statement.ensures in
    ap (λ front. statements_at (c.loop-left.left - 1) (statement_within c.args.fuel) front c.deeper-deepest.result (placed c.in-Some-2.behind.now))
    (c.in_ok-push.ensures.ok ∙ ap (λ tree. c.loop-left.front ++ tree ∷ []) c.into_inner.ensures)
    ∙ ap (λ deepest. statements_at (c.loop-left.left - 1) (statement_within c.args.fuel) (c.loop-left.front ++ c.in-Some-2.statement.tree ∷ []) deepest (placed c.in-Some-2.behind.now)) c.deeper-deepest.ensures
    ∙ sym (statements_more (statement_within c.args.fuel) c.loop-left.left c.loop-left.front c.loop-left.deepest (placed c.loop-left.rest.now)
    (c.in-Some-2.statement, placed c.in-Some-2.behind.now) c.loop-left-test.true c.in_default.ensures found)
    ∙ c.loop-left.invariant

pub statements_at-returns : goal.statements_at-returns
statements_at-returns t c =
    sym c.loop-left.invariant
    ∙ statements_end (statement_within c.args.fuel) c.loop-left.left c.loop-left.front c.loop-left.deepest (placed c.loop-left.rest.now) (omega arith)

pub statement_within-returns-then-fuel-eq0 : goal.statement_within-returns-then-fuel-eq0
statement_within-returns-then-fuel-eq0 t c = without_fuel c.args.fuel (placed c.args.tokens.now) c.if-fuel-eq0.true

pub statement_within-returns : goal.statement_within-returns
statement_within-returns t c = rw (with_fuel c.args.fuel (placed c.args.tokens.now) (omega arith)) c.statement_by.ensures
