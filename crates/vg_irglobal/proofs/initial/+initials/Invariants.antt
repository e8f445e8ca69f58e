use Rattle.std.proofs.Common.{◌≡◌, ◌+◌, ◌*◌}
use Rattle.vg_irparse.specs.Placed.{placed}
use Rattle.vg_irparse.specs.ReadingType.{most_brackets}
use Rattle.vg_irread.specs.Reading.{many_from, many_at}
use Rattle.vg_irglobal.specs.ReadingInitial.{comma, next_part_at, initial_within}
use Rattle.vg_irglobal.proofs.initial.+initials.Given as goal

abbrev pub decreases-initial_within : goal.decreases-initial_within
decreases-initial_within l = 8 * l.depth

abbrev pub decreases-part_at : goal.decreases-part_at
decreases-part_at l = 8 * l.depth + 1

abbrev pub decreases-next_part_at : goal.decreases-next_part_at
decreases-next_part_at l = 8 * l.depth + 2

abbrev pub decreases-more_parts_at : goal.decreases-more_parts_at
decreases-more_parts_at l = 8 * l.depth + 3

abbrev pub decreases-parts_at : goal.decreases-parts_at
decreases-parts_at l = 8 * l.depth + 4

abbrev pub decreases-elements_at : goal.decreases-elements_at
decreases-elements_at l = 8 * l.depth + 5

abbrev pub decreases-fields_at : goal.decreases-fields_at
decreases-fields_at l = 8 * l.depth + 5

-- the parts from here on, with those so far, are all of them
abbrev pub invariant-more_parts_at-loop-fuel : goal.invariant-more_parts_at-loop-fuel
invariant-more_parts_at-loop-fuel l =
    many_from l.fuel comma (next_part_at (initial_within l.depth)) l.parts most_brackets (placed l.text l.rest)
    ≡ many_at comma (next_part_at (initial_within l.depth)) most_brackets (placed l.text l.fn.tokens)

abbrev pub decreases-more_parts_at-loop-fuel : goal.decreases-more_parts_at-loop-fuel
decreases-more_parts_at-loop-fuel l = l.fuel
