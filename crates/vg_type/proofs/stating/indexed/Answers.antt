use Rattle.vg_type.proofs.GoalLemmas.{called_once}
use Rattle.vg_type.specs.Calls.{signature_in}
use Rattle.vg_type.specs.Expression.{judged}
use Rattle.vg_type.specs.Setting.{scope_in, sorts_of}
use Rattle.vg_type.proofs.stating.indexed.Goals as goal

pub returns : goal.returns
returns c =
    let x = c.args.setting.now.context.now in
    let n = c.args.name.now in
    called_once n (scope_in x).callee c.as_slice.result.now (signature_in x c.callee_named-callee.result) (judged (scope_in x) c.args.index.now (sorts_of x c.args.names.now)) c.type_asked-has.result c.judged.result c.call.result
    c.take_one.result c.nothing.result c.both_taken-taking.result
    c.as_slice.ensures c.callee_named-callee.ensures c.type_asked-has.ensures c.judged.ensures c.take_one.ensures c.nothing.ensures c.both_taken-taking.ensures c.call.ensures
