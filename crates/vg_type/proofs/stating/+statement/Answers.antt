use Rattle.vg_ast.specs.declared.statement.Statement.{Statement}
use Rattle.vg_type.proofs.PlaceLemmas.{each_all, each_on}
use Rattle.vg_type.proofs.StatementLemmas.{state-Assign, state-Block, state-If, state-Let}
use Rattle.vg_type.specs.Setting.{scope_in, sorts_of}
use Rattle.vg_type.specs.Statement.{statement_faults}
use Rattle.vg_type.proofs.stating.+statement.Goals as goal

pub statement-returns-in-Block : goal.statement-returns-in-Block
statement-returns-in-Block t c =
    let x = c.args.setting.now.context.now in
    let inner = sorts_of x c.args.names.now in
    state-Block (scope_in x) inner c.args.s.now c.in-Block.at c.in-Block.body c.as_slice.result.now c.statements.result
    c.in-Block.is c.as_slice.ensures c.statements.ensures

pub statement-returns-in-Let : goal.statement-returns-in-Let
statement-returns-in-Let t c =
    let x = c.args.setting.now.context.now in
    let inner = sorts_of x c.args.names.now in
    state-Let (scope_in x) inner c.args.s.now c.in-Let.at c.in-Let.name c.in-Let.bound c.get.result.now c.in-Let.body c.get-in-Let.result.now c.judged-bound.result c.anywhere.result c.statement.result c.earlier.result
    c.in-Let.is c.get.ensures c.get-in-Let.ensures c.judged-bound.ensures c.anywhere.ensures c.statement.ensures c.earlier.ensures

pub statement-returns-in-If : goal.statement-returns-in-If
statement-returns-in-If t c =
    let x = c.args.setting.now.context.now in
    let inner = sorts_of x c.args.names.now in
    state-If (scope_in x) inner c.args.s.now c.in-If.at c.in-If.condition c.get-in-If.result.now c.in-If.then c.get-in-If-2.result.now c.in-If.otherwise c.judged-condition.result c.at_condition.result
    c.statement-in-If.result c.other.result c.earlier-in-If.result c.earlier-in-If-2.result
    c.in-If.is c.get-in-If.ensures c.get-in-If-2.ensures c.judged-condition.ensures c.at_condition.ensures c.statement-in-If.ensures c.other.ensures c.earlier-in-If.ensures c.earlier-in-If-2.ensures

pub statement-returns-in-Assign : goal.statement-returns-in-Assign
statement-returns-in-Assign t c =
    let x = c.args.setting.now.context.now in
    let inner = sorts_of x c.args.names.now in
    state-Assign (scope_in x) inner c.args.s.now c.in-Assign.written c.in-Assign.value c.get-in-Assign.result.now c.assignment.result
    c.in-Assign.is c.get-in-Assign.ensures c.assignment.ensures

pub statements-loop-one-preserved : goal.statements-loop-one-preserved
statements-loop-one-preserved t c =
    let x = c.args.setting.now.context.now in
    let inner = sorts_of x c.args.names.now in
    each_on (λ (s : Statement). statement_faults (scope_in x) s inner) c.args.body.now c.loop-one.one-index c.loop-one.places c.loop-one.invariant
    c.one-item.result c.earlier-places.result c.statement.result c.loop-one-test.true c.one-item.is c.earlier-places.ensures c.statement.ensures

pub statements-returns : goal.statements-returns
statements-returns t c =
    let x = c.args.setting.now.context.now in
    let inner = sorts_of x c.args.names.now in
    each_all (λ (s : Statement). statement_faults (scope_in x) s inner) c.args.body.now c.loop-one.one-index c.loop-one.places c.loop-one.invariant c.loop-one-test.false
