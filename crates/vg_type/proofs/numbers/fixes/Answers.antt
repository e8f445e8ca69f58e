use Rattle.std.proofs.Common.{◌≡◌}
use Rattle.vg_ast.specs.declared.fix.Fix.{Fix}
use Rattle.vg_type.specs.FirstPlaces.{first_places}
use Rattle.vg_type.specs.Item.{number_faults}
use Rattle.vg_type.specs.Setting.{scope_in}
use Rattle.vg_type.proofs.PlaceLemmas.{each_on, each_all}
use Rattle.vg_type.proofs.numbers.fixes.Goals as goal

pub loop-one-preserved : goal.loop-one-preserved
loop-one-preserved c =
    let h : c.number.result ≡ first_places (number_faults (scope_in c.args.setting.now.context.now) c.one-item.result.value) = cc in
    each_on (λ (fix : Fix). number_faults (scope_in c.args.setting.now.context.now) fix.value) c.args.fixes.now c.loop-one.one-index c.loop-one.places c.loop-one.invariant
    c.one-item.result c.earlier-places.result c.number.result c.loop-one-test.true c.one-item.is c.earlier-places.ensures h

pub returns : goal.returns
returns c = each_all (λ (fix : Fix). number_faults (scope_in c.args.setting.now.context.now) fix.value) c.args.fixes.now c.loop-one.one-index c.loop-one.places c.loop-one.invariant c.loop-one-test.false
