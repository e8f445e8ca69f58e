-- One level of a tree.
use Rattle.std.proofs.Common.{◌≡◌, ℕ, ◌+◌, List, map, [], ◌∷◌, ◌++◌, Option, refl}
use Rattle.std.specs.Option.{option_to_list}
use Rattle.vg_inline.specs.declared.head.Head.{Head}
use Rattle.vg_inline.specs.declared.tree.Tree.{Tree, fold-roll-Tree, roll-out-Tree, out-Tree}
use Rattle.vg_inline.specs.declared.keep.Keep.{Keep}
use Rattle.vg_inline.specs.declared.kept.Kept.{Kept}
use Rattle.vg_inline.specs.Size.{sum_of, head_nodes, size_step, size}
use Rattle.vg_inline.specs.Instantiate.{node, parameter_of, instantiated, instantiate_step, instantiate}
use Rattle.vg_inline.specs.Kept.{joined_lists, parameters_step, parameters, filled, filling_step, filling}

pub size-node : (h : Head) (ts : List Tree) → size (node h ts) ≡ head_nodes h + sum_of (map size ts)
size-node h ts = fold-roll-Tree ℕ size_step (record { head = h; parts = ts })

pub instantiate-node : (arguments : List Tree) (h : Head) (ts : List Tree) → instantiate arguments (node h ts) ≡ instantiated arguments (parameter_of h (map (instantiate arguments) ts)) h (map (instantiate arguments) ts)
instantiate-node arguments h ts = fold-roll-Tree Tree (instantiate_step arguments) (record { head = h; parts = ts })

pub parameters-node : (h : Head) (ts : List Tree) → parameters (node h ts) ≡ joined_lists (map parameters ts) ++ option_to_list (parameter_of h (map parameters ts))
parameters-node h ts = fold-roll-Tree (List ℕ) parameters_step (record { head = h; parts = ts })

pub filling-node : (keep : Keep) (arguments : List (Option Kept)) (h : Head) (ts : List Tree) → filling keep arguments (node h ts) ≡ filled keep arguments (parameter_of h (map (filling keep arguments) ts)) h (map (filling keep arguments) ts)
filling-node keep arguments h ts = fold-roll-Tree (Option Kept) (filling_step keep arguments) (record { head = h; parts = ts })

abbrev pub head_of : Tree → Head
head_of t = (out-Tree t).head

abbrev pub parts_of : Tree → List Tree
parts_of t = (out-Tree t).parts

pub node_again : (t : Tree) → node (head_of t) (parts_of t) ≡ t
node_again t = roll-out-Tree t

-- parts may be mapped
pub same_parameter : {X Y : Type 0} (h : Head) (f : X → Y) (xs : List X) → parameter_of h (map f xs) ≡ parameter_of h xs
same_parameter h f [] = refl
same_parameter h f (x ∷ xs) = refl
