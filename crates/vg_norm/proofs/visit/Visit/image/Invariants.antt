use Rattle.std.proofs.Common.{◌+◌, ◌*◌, ◌⊎◌, length}
use Rattle.vg_graph.specs.Node.{IsIn}
use Rattle.vg_norm.specs.Images.{AreNodes, HasMoreImages, IsDone, IsUnderWay, IsWalk}
use Rattle.vg_graph.specs.Order.{IsPath, unmarked}
use Rattle.vg_norm.proofs.visit.Visit.image.Given as goal

abbrev pub invariant-loop-n : goal.invariant-loop-n
invariant-loop-n l = record {
  visit : IsWalk l.g l.self;
  under : IsUnderWay l.self l.stack.items;
  path : IsPath l.g.nodes l.stack.items;
  more : HasMoreImages l.initial.self l.self;
  nodes : AreNodes l.g l.stack.items;
  found : IsDone l.self.images.items l.root ⊎ IsIn l.stack.items l.root;
}

abbrev pub decreases-loop-n : goal.decreases-loop-n
decreases-loop-n l = 3 * unmarked l.self.opened.items + length l.stack.items
