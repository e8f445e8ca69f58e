-- What is found of expressions, by what is found of their parts.
use Rattle.std.proofs.Common.{◌≡◌, length, rules}
use Rattle.vg_type.specs.Expression.{judged}
use Rattle.vg_type.specs.Setting.{scope_in, sorts_of}
use Rattle.vg_type.specs.Calls.{signature_in, types_asked}
use Rattle.vg_type.proofs.CallLemmas.{taken_on, taken_all}
use Rattle.vg_type.proofs.JudgedLemmas.{judge-Access, judge-Join, judge-Binary, judge-Cast, judge-Slice, judge-If, judge-Let, judge-Call}
use Rattle.vg_type.proofs.judging.+judged.Goals as goal

pub judged-returns-in-Access : goal.judged-returns-in-Access
judged-returns-in-Access t c =
    let x = c.args.setting.now.context.now in
    judge-Access (scope_in x) (sorts_of x c.args.names.now) c.args.e.now c.in-Access.memory c.in-Access.at c.in-Access.size c.in-Access.address c.get.result.now c.get-in-Access.result.now
    c.as_slice-in-Access.result.now c.is_memory.result c.address_of.result c.judged.result c.judged-in-Access.result c.access.result
    c.in-Access.is c.as_slice-in-Access.ensures c.is_memory.ensures c.address_of.ensures c.get.ensures c.get-in-Access.ensures c.judged.ensures c.judged-in-Access.ensures c.access.ensures

pub judged-returns-in-Join : goal.judged-returns-in-Join
judged-returns-in-Join t c =
    let x = c.args.setting.now.context.now in
    judge-Join (scope_in x) (sorts_of x c.args.names.now) c.args.e.now c.in-Join.at c.in-Join.high c.in-Join.low
    c.get-in-Join.result.now c.get-in-Join-2.result.now c.judged-in-Join.result c.judged-in-Join-2.result c.join.result
    c.in-Join.is c.get-in-Join.ensures c.get-in-Join-2.ensures c.judged-in-Join.ensures c.judged-in-Join-2.ensures c.join.ensures

pub judged-returns-in-Binary : goal.judged-returns-in-Binary
judged-returns-in-Binary t c =
    let x = c.args.setting.now.context.now in
    judge-Binary (scope_in x) (sorts_of x c.args.names.now) c.args.e.now c.in-Binary.operator c.in-Binary.at c.in-Binary.left c.in-Binary.right
    c.get-in-Binary.result.now c.get-in-Binary-2.result.now c.judged-in-Binary.result c.judged-in-Binary-2.result c.binary.result
    c.in-Binary.is c.get-in-Binary.ensures c.get-in-Binary-2.ensures c.judged-in-Binary.ensures c.judged-in-Binary-2.ensures c.binary.ensures

pub judged-returns-in-Slice : goal.judged-returns-in-Slice
judged-returns-in-Slice t c =
    let x = c.args.setting.now.context.now in
    judge-Slice (scope_in x) (sorts_of x c.args.names.now) c.args.e.now c.in-Slice.operand c.in-Slice.at c.in-Slice.high c.in-Slice.low
    c.get-in-Slice.result.now c.get-in-Slice-2.result.now c.get-in-Slice-3.result.now c.judged-in-Slice.result c.judged-in-Slice-2.result c.judged-in-Slice-3.result c.slice.result
    c.in-Slice.is c.get-in-Slice.ensures c.get-in-Slice-2.ensures c.get-in-Slice-3.ensures c.judged-in-Slice.ensures c.judged-in-Slice-2.ensures c.judged-in-Slice-3.ensures c.slice.ensures

pub judged-returns-in-If : goal.judged-returns-in-If
judged-returns-in-If t c =
    let x = c.args.setting.now.context.now in
    judge-If (scope_in x) (sorts_of x c.args.names.now) c.args.e.now c.in-If.at c.in-If.condition c.in-If.then c.in-If.otherwise
    c.get-in-If.result.now c.get-in-If-2.result.now c.get-in-If-3.result.now c.judged-in-If.result c.judged-in-If-2.result c.judged-in-If-3.result c.choice.result
    c.in-If.is c.get-in-If.ensures c.get-in-If-2.ensures c.get-in-If-3.ensures c.judged-in-If.ensures c.judged-in-If-2.ensures c.judged-in-If-3.ensures c.choice.ensures

pub judged-returns-in-Let : goal.judged-returns-in-Let
judged-returns-in-Let t c =
    let x = c.args.setting.now.context.now in
    judge-Let (scope_in x) (sorts_of x c.args.names.now) c.args.e.now c.in-Let.at c.in-Let.name c.in-Let.bound c.in-Let.body
    c.get-in-Let.result.now c.get-in-Let-2.result.now c.judged-bound.result c.judged-in-Let.result c.binding.result
    c.in-Let.is c.get-in-Let.ensures c.get-in-Let-2.ensures c.judged-bound.ensures c.judged-in-Let.ensures c.binding.ensures

pub judged-returns-in-Cast : goal.judged-returns-in-Cast
judged-returns-in-Cast t c =
    let x = c.args.setting.now.context.now in
    judge-Cast (scope_in x) (sorts_of x c.args.names.now) c.args.e.now c.in-Cast.operand c.in-Cast.at c.in-Cast.target c.get-in-Cast.result.now c.judged-in-Cast.result c.written-written.result c.cast.result
    c.in-Cast.is c.get-in-Cast.ensures c.judged-in-Cast.ensures c.written-written.ensures c.cast.ensures

pub called-returns : goal.called-returns
called-returns t c =
    let x = c.args.setting.now.context.now in
    judge-Call (scope_in x) (sorts_of x c.args.names.now) c.args.name.now c.args.arguments.now c.as_slice.result.now (signature_in x c.called_by-callee.result) c.taken-taking.result c.call.result
    c.as_slice.ensures c.called_by-callee.ensures c.taken-taking.ensures c.call.ensures

pub taken-loop-k-preserved : goal.taken-loop-k-preserved
taken-loop-k-preserved t c =
    let x = c.args.setting.now.context.now in
    let has : c.type_asked-has.result ≡ types_asked (signature_in x c.args.callee.now) (length c.args.arguments.now) c.loop-k.k = search rules in
    taken_on (λ e. judged (scope_in x) e (sorts_of x c.args.names.now)) (types_asked (signature_in x c.args.callee.now) (length c.args.arguments.now)) c.args.arguments.now c.loop-k.k c.loop-k.taking c.loop-k.invariant
    c.index-arguments-k.result c.both_taken-taking.result c.take_one.result c.type_asked-has.result c.judged.result c.loop-k-test.true c.index-arguments-k.is c.both_taken-taking.ensures c.take_one.ensures has c.judged.ensures

pub taken-returns : goal.taken-returns
taken-returns t c =
    let x = c.args.setting.now.context.now in
    taken_all (λ e. judged (scope_in x) e (sorts_of x c.args.names.now)) (types_asked (signature_in x c.args.callee.now) (length c.args.arguments.now)) c.args.arguments.now c.loop-k.k c.loop-k.taking c.loop-k.invariant
    c.loop-k-test.false
