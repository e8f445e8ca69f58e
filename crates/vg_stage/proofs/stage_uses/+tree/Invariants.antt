use Rattle.std.proofs.Common.{◌≡◌, flat_map, drop}
use Rattle.vg_type.specs.Setting.{setting_in}
use Rattle.vg_stage.specs.StageLack.{some_lack}
use Rattle.vg_stage.specs.StageOrder.{tree_reads}
use Rattle.vg_stage.proofs.stage_uses.+tree.Given as goal

abbrev pub invariant-trees_lack-loop-tree : goal.invariant-trees_lack-loop-tree
invariant-trees_lack-loop-tree l =
    some_lack l.lacking.flags (flat_map (tree_reads (setting_in l.lacking.context.now)) l.trees)
    ≡ some_lack l.lacking.flags (flat_map (tree_reads (setting_in l.lacking.context.now)) (drop l.tree-index l.trees))
