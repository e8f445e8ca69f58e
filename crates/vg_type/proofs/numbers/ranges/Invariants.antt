use Rattle.std.proofs.Common.{◌≡◌, drop}
use Rattle.vg_type.specs.Faults.{of_each}
use Rattle.vg_type.specs.FirstPlaces.{first_places, earlier}
use Rattle.vg_type.specs.Item.{range_faults}
use Rattle.vg_type.specs.Setting.{scope_in}
use Rattle.vg_type.proofs.numbers.ranges.Given as goal

abbrev pub invariant-loop-one : goal.invariant-loop-one
invariant-loop-one l =
    first_places (of_each (range_faults (scope_in l.setting.context.now)) l.ranges)
    ≡ earlier l.places (first_places (of_each (range_faults (scope_in l.setting.context.now)) (drop l.one-index l.ranges)))
