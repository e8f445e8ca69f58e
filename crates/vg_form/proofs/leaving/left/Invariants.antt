use Rattle.std.proofs.Common.{◌≡◌, ◌++◌, length}
use Rattle.std.specs.List.{filter}
use Rattle.vg_form.specs.Description.{declares}
use Rattle.vg_form.specs.Given.{items_in}
use Rattle.vg_form.proofs.leaving.left.Given as goal

-- those so far, and what is left of the others
abbrev pub invariant-loop-item : goal.invariant-loop-item
invariant-loop-item l = items_in l.left.items ++ filter declares l.rest ≡ filter declares l.items

abbrev pub decreases-loop-item : goal.decreases-loop-item
decreases-loop-item l = length l.rest
