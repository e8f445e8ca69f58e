use Rattle.std.proofs.Common.{◌≡◌}
use Rattle.vg_type.specs.FirstPlaces.{first_places}
use Rattle.vg_type.specs.Item.{field_faults}
use Rattle.vg_type.specs.Setting.{scope_in}
use Rattle.vg_type.proofs.PlaceLemmas.{each_on, each_all}
use Rattle.vg_type.proofs.numbers.fields.Goals as goal

pub loop-one-preserved : goal.loop-one-preserved
loop-one-preserved c =
    let h : c.ranges-in-loop-one.result ≡ first_places (field_faults (scope_in c.args.setting.now.context.now) c.one-item.result) = cc in
    each_on (field_faults (scope_in c.args.setting.now.context.now)) c.args.fields.now c.loop-one.one-index c.loop-one.places c.loop-one.invariant
    c.one-item.result c.earlier-places.result c.ranges-in-loop-one.result c.loop-one-test.true c.one-item.is c.earlier-places.ensures h

pub returns : goal.returns
returns c = each_all (field_faults (scope_in c.args.setting.now.context.now)) c.args.fields.now c.loop-one.one-index c.loop-one.places c.loop-one.invariant c.loop-one-test.false
