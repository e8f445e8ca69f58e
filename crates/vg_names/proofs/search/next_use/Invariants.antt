use Rattle.std.proofs.Common.{◌≡◌, ℕ, ◌<◌, ◌≤◌, get_or}
use Rattle.vg_names.specs.declared.mark.Mark.TheVariants.{Done}
use Rattle.vg_names.specs.Search.{mark_at}
use Rattle.vg_names.proofs.search.next_use.Given as goal

abbrev pub invariant-loop-at : goal.invariant-loop-at
invariant-loop-at l = (k : ℕ) → l.from ≤ k → k < l.at → mark_at l.marks (get_or l.uses k 0) ≡ Done
