-- A walk along a list by `first` and `next`.
use Rattle.std.specs.Prelude.{◌≡◌, ℕ, Option, List, length, take, slice_get}
use Rattle.vg_list.specs.NodeLists.{NodeLists, nodes_of}

-- a walk along the list has seen these nodes, its first ones in order, and stands at the one behind them
pub record IsWalk (all : NodeLists) (list : ℕ) (seen : List ℕ) (current : Option ℕ) : Type 0 where
  pub in_order : seen ≡ take (length seen) (nodes_of all list)
  pub stands : current ≡ slice_get (nodes_of all list) (length seen)
