use Rattle.std.proofs.Common.{◌≡◌, drop}
use Rattle.vg_type.specs.Faults.{of_each}
use Rattle.vg_type.specs.FirstPlaces.{first_places, earlier}
use Rattle.vg_type.specs.Item.{item_faults}
use Rattle.vg_type.specs.Setting.{setting_in}
use Rattle.vg_type.proofs.describing.items.Given as goal

abbrev pub invariant-loop-one : goal.invariant-loop-one
invariant-loop-one l =
    first_places (of_each (item_faults (setting_in l.setting.context.now)) l.all)
    ≡ earlier l.places (first_places (of_each (item_faults (setting_in l.setting.context.now)) (drop l.one-index l.all)))
