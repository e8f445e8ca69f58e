use Rattle.std.proofs.Common.{◌≡◌, ◌+◌, ◌*◌, length, []}
use Rattle.vg_irparse.specs.Placed.{placed}
use Rattle.vg_irparse.specs.ReadingType.{fields_at, part_within}
use Rattle.vg_irparse.proofs.types.+types.Given as goal

abbrev pub decreases-part_within : goal.decreases-part_within
decreases-part_within l = 4 * l.depth

abbrev pub decreases-field_at : goal.decreases-field_at
decreases-field_at l = 4 * l.depth + 1

abbrev pub decreases-array_at : goal.decreases-array_at
decreases-array_at l = 4 * l.depth + 2

abbrev pub decreases-fields_at : goal.decreases-fields_at
decreases-fields_at l = 4 * l.depth + 2

abbrev pub decreases-bracketed_at : goal.decreases-bracketed_at
decreases-bracketed_at l = 4 * l.depth + 3

-- the fields from here on, with those so far, are all of the structure
abbrev pub invariant-fields_at-loop-fuel : goal.invariant-fields_at-loop-fuel
invariant-fields_at-loop-fuel l =
    fields_at l.fuel (part_within l.depth) l.types l.leaves (placed l.text l.rest) ≡ fields_at (length l.fn.tokens) (part_within l.depth) [] [] (placed l.text l.fn.tokens)

abbrev pub decreases-fields_at-loop-fuel : goal.decreases-fields_at-loop-fuel
decreases-fields_at-loop-fuel l = l.fuel
