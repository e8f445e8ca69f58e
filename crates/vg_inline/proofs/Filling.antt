-- One level of a body with arguments in it.
use Rattle.std.proofs.Common.{◌≡◌, ℕ, List, map, Option, sym, ap, ◌∙◌}
use Rattle.vg_inline.specs.declared.tree.Tree.{Tree}
use Rattle.vg_inline.specs.declared.keep.Keep.{Keep}
use Rattle.vg_inline.specs.declared.kept.Kept.{Kept}
use Rattle.vg_inline.specs.Instantiate.{parameter_of}
use Rattle.vg_inline.specs.Kept.{filled, filling}
use Rattle.vg_inline.proofs.TreeLemmas.{filling-node, head_of, parts_of, node_again, same_parameter}

pub filling_tree : (keep : Keep) (arguments : List (Option Kept)) (t : Tree) → filling keep arguments t ≡ filled keep arguments (parameter_of (head_of t) (parts_of t)) (head_of t) (map (filling keep arguments) (parts_of t))
filling_tree keep arguments t =
    ap (filling keep arguments) (sym (node_again t)) ∙ filling-node keep arguments (head_of t) (parts_of t)
    ∙ ap (λ (o : Option ℕ). filled keep arguments o (head_of t) (map (filling keep arguments) (parts_of t))) (same_parameter (head_of t) (filling keep arguments) (parts_of t))
