use Rattle.vg_ast.specs.declared.parameter.Parameter.{Parameter}
use Rattle.vg_type.specs.Item.{in_type}
use Rattle.vg_type.specs.Setting.{scope_in}
use Rattle.vg_type.proofs.PlaceLemmas.{each_on, each_all}
use Rattle.vg_type.proofs.describing.parameters.Goals as goal

pub loop-one-preserved : goal.loop-one-preserved
loop-one-preserved c =
    each_on (λ (parameter : Parameter). in_type (scope_in c.args.setting.now.context.now) parameter.declared) c.args.parameters.now c.loop-one.one-index c.loop-one.places c.loop-one.invariant
    c.one-item.result c.earlier-places.result c.in_type.result c.loop-one-test.true c.one-item.is c.earlier-places.ensures c.in_type.ensures

pub returns : goal.returns
returns c = each_all (λ (parameter : Parameter). in_type (scope_in c.args.setting.now.context.now) parameter.declared) c.args.parameters.now c.loop-one.one-index c.loop-one.places c.loop-one.invariant c.loop-one-test.false
