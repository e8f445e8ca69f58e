use Rattle.vg_inline.specs.Kept.{filling, no_trees}
use Rattle.vg_inline.proofs.Loops.{Gathering}
use Rattle.vg_inline.proofs.calling.+fill.Given as goal

abbrev pub invariant-fill_all-loop-tree : goal.invariant-fill_all-loop-tree
invariant-fill_all-loop-tree l = Gathering l.keep (filling l.keep l.arguments) l.trees l.tree-index no_trees l.list
