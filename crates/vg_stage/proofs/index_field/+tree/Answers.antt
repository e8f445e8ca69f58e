-- One more tree is found.
use Rattle.std.proofs.Common.{◌&&◌, ap, ◌∙◌}
use Rattle.vg_stage.proofs.IndexLemmas.{found_more}
use Rattle.vg_stage.proofs.index_field.+tree.Goals as goal

pub all_indices-loop-tree-preserved : goal.all_indices-loop-tree-preserved
all_indices-loop-tree-preserved t c =
    found_more c.args.trees.now c.loop-tree.tree-index c.tree-item.result c.loop-tree.all.is_plain c.joined-all.result.is_plain c.loop-tree.all.first c.joined-all.result.first c.tree_indices.result.first
    c.loop-tree.invariant c.loop-tree-test.true c.tree-item.is c.tree_indices.ensures.first (c.joined-all.ensures.plain ∙ ap (λ b. c.loop-tree.all.is_plain && b) c.tree_indices.ensures.plain) c.joined-all.ensures.first
