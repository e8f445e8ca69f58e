use Rattle.vg_type.proofs.GoalLemmas.{accessed_by}
use Rattle.vg_type.specs.Expression.{judged}
use Rattle.vg_type.specs.Setting.{scope_in, sorts_of}
use Rattle.vg_type.proofs.stating.accessed.Goals as goal

pub returns : goal.returns
returns c =
    let x = c.args.setting.now.context.now in
    let inner = sorts_of x c.args.names.now in
    accessed_by (scope_in x) c.args.memory.now c.args.at c.as_slice.result.now c.is_memory.result c.address_of.result (judged (scope_in x) c.args.size.now inner) (judged (scope_in x) c.args.address.now inner)
    c.judged.result c.judged-2.result c.access.result
    c.as_slice.ensures c.is_memory.ensures c.address_of.ensures c.judged.ensures c.judged-2.ensures c.access.ensures
