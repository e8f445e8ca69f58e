use Rattle.std.proofs.Common.{ℕ, ◌≡◌, ◌+◌, ◌*◌, ◌⊎◌, length}
use Rattle.vg_graph.specs.Node.{IsIn}
use Rattle.vg_graph.specs.Order.{AreWithin, IsListing, IsMarked, IsOnTheWay, IsPath, unmarked}
use Rattle.vg_graph.proofs.order.operands_first.Given as goal

abbrev pub invariant-loop-n : goal.invariant-loop-n
invariant-loop-n l = record {
  listing : IsListing l.nodes l.order.items l.placed.items;
  count : length l.opened.items ≡ length l.nodes;
  way : IsOnTheWay l.placed.items l.opened.items l.stack.items;
  path : IsPath l.nodes l.stack.items;
  within : AreWithin l.nodes l.stack.items;
  found : IsMarked l.placed.items l.root ⊎ IsIn l.stack.items l.root;
}

abbrev pub decreases-loop-n : goal.decreases-loop-n
decreases-loop-n l = 3 * unmarked l.opened.items + length l.stack.items
