-- A slot of its own for each value.
use Rattle.std.specs.Prelude.{ℕ, ◌+◌, List, map}
use Rattle.std.specs.List.{range_with_len}
use Rattle.vg_goal.specs.declared.place.Place.{Place}
use Rattle.vg_goal.specs.declared.place.Place.TheVariants.{Slot}

-- the slot of the value of this number; the first two slots hold no value
abbrev pub slot_of : ℕ → Place
slot_of value = Slot (value + 2)

-- the slots of so many values, in the order of their numbers
abbrev pub slots : ℕ → List Place
slots values = map slot_of (range_with_len 0 values)
