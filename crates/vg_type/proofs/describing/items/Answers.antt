use Rattle.vg_type.specs.Item.{item_faults}
use Rattle.vg_type.specs.Setting.{setting_in}
use Rattle.vg_type.proofs.PlaceLemmas.{each_on, each_all}
use Rattle.vg_type.proofs.describing.items.Goals as goal

pub loop-one-preserved : goal.loop-one-preserved
loop-one-preserved c =
    each_on (item_faults (setting_in c.args.setting.now.context.now)) c.args.all.now c.loop-one.one-index c.loop-one.places c.loop-one.invariant
    c.one-item.result c.earlier-places.result c.item.result c.loop-one-test.true c.one-item.is c.earlier-places.ensures c.item.ensures

pub returns : goal.returns
returns c = each_all (item_faults (setting_in c.args.setting.now.context.now)) c.args.all.now c.loop-one.one-index c.loop-one.places c.loop-one.invariant c.loop-one-test.false
