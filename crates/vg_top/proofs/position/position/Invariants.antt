-- The rest of the text leads from here to the same place.
use Rattle.std.proofs.Common.{◌≡◌, ◌+◌, ◌≤◌, length}
use Rattle.vg_top.specs.Position.{position, position_from}
use Rattle.vg_top.proofs.position.position.Given as goal

abbrev pub invariant-loop-left : goal.invariant-loop-left
invariant-loop-left l =
    (position_from l.line l.column l.left l.rest ≡ position l.text l.at) × (l.line + length l.rest ≤ 1 + length l.text) × (l.column + length l.rest ≤ 1 + length l.text)

abbrev pub decreases-loop-left : goal.decreases-loop-left
decreases-loop-left l = l.left
