use Rattle.vg_stage.proofs.IndexLemmas.{AreFound}
use Rattle.vg_stage.proofs.index_field.+tree.Given as goal

abbrev pub invariant-all_indices-loop-tree : goal.invariant-all_indices-loop-tree
invariant-all_indices-loop-tree l = AreFound l.trees l.tree-index l.all.is_plain l.all.first
