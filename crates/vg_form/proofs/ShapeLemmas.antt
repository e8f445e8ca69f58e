-- What a tree is as far as the form asks, by what its parts are.
use Rattle.std.proofs.Common.{◌≡◌, ℕ, List, map, sym, ap, ◌∙◌}
use Rattle.vg_inline.specs.declared.tree.Tree.{Tree, fold-roll-Tree, roll-out-Tree, out-Tree}
use Rattle.vg_form.specs.declared.shape.Shape.{Shape}
use Rattle.vg_form.specs.Shape.{shape_of, shape_step, shaped}

pub shape_tree : (file : ℕ) (t : Tree) → shape_of file t ≡ shaped file (out-Tree t).head (map (shape_of file) (out-Tree t).parts)
shape_tree file t = ap (shape_of file) (sym (roll-out-Tree t)) ∙ fold-roll-Tree Shape (shape_step file) (out-Tree t)
