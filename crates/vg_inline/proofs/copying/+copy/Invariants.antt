use Rattle.std.proofs.Common.{◌≡◌, take}
use Rattle.vg_inline.proofs.copying.+copy.Given as goal

abbrev pub invariant-copy_all-loop-tree : goal.invariant-copy_all-loop-tree
invariant-copy_all-loop-tree l = l.copies ≡ take l.tree-index l.trees
