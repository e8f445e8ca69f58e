-- The first places of faults.
use Rattle.std.specs.Prelude.{Option, None}
use Rattle.std.specs.Option.{option_or}
use Rattle.vg_names.specs.First.{first_of}
use Rattle.vg_type.specs.declared.first_places.FirstPlaces.{FirstPlaces}
use Rattle.vg_type.specs.declared.judgement.Judgement.{Judgement}
use Rattle.vg_type.specs.declared.value_type.ValueType.{ValueType}
use Rattle.vg_type.specs.Faults.{Faults}
use Rattle.vg_type.specs.Found.{first_unfit, number_width}
use Rattle.vg_type.specs.Judged.{unlike_at}
use Rattle.vg_type.specs.Statement.{condition_widths}

-- the first place of each list
abbrev pub first_places : Faults → FirstPlaces
first_places faults = record { width = first_of faults.widths; range = first_of faults.ranges }

-- no place
abbrev pub nowhere : FirstPlaces
nowhere = record { width = None; range = None }

-- the first places of what stands in front, or else of what stands behind
abbrev pub earlier : FirstPlaces → FirstPlaces → FirstPlaces
earlier front behind = record { width = option_or front.width behind.width; range = option_or front.range behind.range }

-- those of an expression, by what is found of it, at each kind of place

abbrev pub found_anywhere : Judgement → FirstPlaces
found_anywhere f = record { width = f.width; range = f.range }

abbrev pub found_at_type : Option ValueType → Judgement → FirstPlaces
found_at_type t f = record { width = option_or f.width (first_of (unlike_at t f.start f.sort)); range = option_or f.range (first_unfit t f) }

abbrev pub found_at_number : Judgement → FirstPlaces
found_at_number f = record { width = number_width f; range = f.range }

abbrev pub found_at_condition : Judgement → FirstPlaces
found_at_condition f = record { width = option_or f.width (first_of (condition_widths f.start f.sort)); range = f.range }
