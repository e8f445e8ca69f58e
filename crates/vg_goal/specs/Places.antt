-- Places as plain data.
use Rattle.std.specs.Prelude.{Bool, false, nat_eq}
use Rattle.vg_goal.specs.declared.place.Place.{Place}
use Rattle.vg_goal.specs.declared.place.Place.TheVariants.{Saved, Argument, Slot, In, Out}

-- whether two places are one
abbrev pub same_place : Place → Place → Bool
same_place (Saved j) (Saved k) = nat_eq j k
same_place (Argument j) (Argument k) = nat_eq j k
same_place (Slot j) (Slot k) = nat_eq j k
same_place (In j) (In k) = nat_eq j k
same_place (Out j) (Out k) = nat_eq j k
same_place _ _ = false
