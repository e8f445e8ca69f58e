use Rattle.vg_type.specs.Item.{part_faults}
use Rattle.vg_type.specs.Setting.{scope_in}
use Rattle.vg_type.proofs.PlaceLemmas.{each_on, each_all}
use Rattle.vg_type.proofs.numbers.parts.Goals as goal

pub loop-one-preserved : goal.loop-one-preserved
loop-one-preserved c =
    each_on (part_faults (scope_in c.args.setting.now.context.now)) c.args.parts.now c.loop-one.one-index c.loop-one.places c.loop-one.invariant
    c.one-item.result c.earlier-places.result c.part.result c.loop-one-test.true c.one-item.is c.earlier-places.ensures c.part.ensures

pub returns : goal.returns
returns c = each_all (part_faults (scope_in c.args.setting.now.context.now)) c.args.parts.now c.loop-one.one-index c.loop-one.places c.loop-one.invariant c.loop-one-test.false
