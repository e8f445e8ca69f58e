use Rattle.std.proofs.Common.{◌≡◌}
use Rattle.vg_goal.specs.Slots.{slots}
use Rattle.vg_goal.proofs.places.Places.slots.Given as goal

abbrev pub invariant-loop-value : goal.invariant-loop-value
invariant-loop-value l = l.places.items ≡ slots l.value
