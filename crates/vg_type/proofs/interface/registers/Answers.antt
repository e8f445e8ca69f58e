use Rattle.vg_type.specs.Item.{register_faults}
use Rattle.vg_type.specs.Setting.{scope_in}
use Rattle.vg_type.proofs.PlaceLemmas.{each_on, each_all}
use Rattle.vg_type.proofs.interface.registers.Goals as goal

pub loop-one-preserved : goal.loop-one-preserved
loop-one-preserved c =
    each_on (register_faults (scope_in c.args.setting.now.context.now)) c.args.registers.now c.loop-one.one-index c.loop-one.places c.loop-one.invariant
    c.one-item.result c.earlier-places.result c.register.result c.loop-one-test.true c.one-item.is c.earlier-places.ensures c.register.ensures

pub returns : goal.returns
returns c = each_all (register_faults (scope_in c.args.setting.now.context.now)) c.args.registers.now c.loop-one.one-index c.loop-one.places c.loop-one.invariant c.loop-one-test.false
