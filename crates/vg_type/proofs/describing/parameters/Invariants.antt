use Rattle.std.proofs.Common.{◌≡◌, drop}
use Rattle.vg_ast.specs.declared.parameter.Parameter.{Parameter}
use Rattle.vg_type.specs.Faults.{of_each}
use Rattle.vg_type.specs.FirstPlaces.{first_places, earlier}
use Rattle.vg_type.specs.Item.{in_type}
use Rattle.vg_type.specs.Setting.{scope_in}
use Rattle.vg_type.proofs.describing.parameters.Given as goal

abbrev pub invariant-loop-one : goal.invariant-loop-one
invariant-loop-one l =
    first_places (of_each (λ (parameter : Parameter). in_type (scope_in l.setting.context.now) parameter.declared) l.parameters)
    ≡ earlier l.places (first_places (of_each (λ (parameter : Parameter). in_type (scope_in l.setting.context.now) parameter.declared) (drop l.one-index l.parameters)))
