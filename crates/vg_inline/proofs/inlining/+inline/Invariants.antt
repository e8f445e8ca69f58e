use Rattle.vg_inline.specs.Context.{inlined_at, parameter_type, tree_at}
use Rattle.vg_inline.specs.Kept.{no_trees}
use Rattle.vg_inline.proofs.Loops.{Gathering}
use Rattle.vg_inline.proofs.InlineLemmas.{Taking}
use Rattle.vg_inline.proofs.inlining.+inline.Given as goal

abbrev pub invariant-inline_arguments-loop-position : goal.invariant-inline_arguments-loop-position
invariant-inline_arguments-loop-position l = Taking l.context.keep (parameter_type l.context) (inlined_at l.context l.names) l.parameters l.arguments l.position l.list

abbrev pub invariant-inline_all-loop-argument : goal.invariant-inline_all-loop-argument
invariant-inline_all-loop-argument l = Gathering l.context.keep (tree_at l.context l.names) l.arguments l.argument-index no_trees l.list
