-- What places hold after copies that are made one after the other.
use Rattle.std.specs.Prelude.{ℕ, Bool, not, List, if◌then◌else◌, fold}
use Rattle.vg_goal.specs.declared.place.Place.{Place}
use Rattle.vg_goal.specs.Places.{same_place}

-- a move or a copy, from the first place to the second
abbrev pub Move : Type 0
Move = Place × Place

-- what each place holds
abbrev pub Cells : Type 0
Cells = Place → ℕ

-- what each place holds after a copy
abbrev pub copied : Cells → Move → Cells
copied cells copy = λ place. if same_place place copy.1 then cells copy.0 else cells place

-- what each place holds after these copies, the first one first
abbrev pub after : List Move → Cells → Cells
after copies cells = fold copied cells copies

-- whether a move leads to another place
abbrev pub leaves : Move → Bool
leaves move = not (same_place move.0 move.1)
