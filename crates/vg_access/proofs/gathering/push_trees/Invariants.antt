use Rattle.std.proofs.Common.{◌≡◌, ◌++◌, flat_map, drop}
use Rattle.vg_tree.specs.Access.{tree_readings}
use Rattle.vg_tree.specs.Frame.{frame_in}
use Rattle.vg_access.proofs.gathering.push_trees.Given as goal

abbrev pub invariant-loop-tree : goal.invariant-loop-tree
invariant-loop-tree l = l.readings ++ flat_map (tree_readings (frame_in l.frame)) (drop l.tree-index l.trees) ≡ l.initial.readings ++ flat_map (tree_readings (frame_in l.frame)) l.trees
