-- A tree is its node over its parts.
use Rattle.std.proofs.Common.{◌≡◌, List}
use Rattle.vg_inline.specs.declared.head.Head.{Head}
use Rattle.vg_inline.specs.declared.tree.Tree.{Tree, roll-out-Tree, out-Tree}
use Rattle.vg_inline.specs.Instantiate.{node}

abbrev pub head_of : Tree → Head
head_of t = (out-Tree t).head

abbrev pub parts_of : Tree → List Tree
parts_of t = (out-Tree t).parts

pub node_again : (t : Tree) → node (head_of t) (parts_of t) ≡ t
node_again t = roll-out-Tree t
