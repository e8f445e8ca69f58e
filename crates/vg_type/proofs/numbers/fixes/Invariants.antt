use Rattle.std.proofs.Common.{◌≡◌, drop}
use Rattle.vg_ast.specs.declared.fix.Fix.{Fix}
use Rattle.vg_type.specs.Faults.{of_each}
use Rattle.vg_type.specs.FirstPlaces.{first_places, earlier}
use Rattle.vg_type.specs.Item.{number_faults}
use Rattle.vg_type.specs.Setting.{scope_in}
use Rattle.vg_type.proofs.numbers.fixes.Given as goal

abbrev pub invariant-loop-one : goal.invariant-loop-one
invariant-loop-one l =
    first_places (of_each (λ (fix : Fix). number_faults (scope_in l.setting.context.now) fix.value) l.fixes)
    ≡ earlier l.places (first_places (of_each (λ (fix : Fix). number_faults (scope_in l.setting.context.now) fix.value) (drop l.one-index l.fixes)))
