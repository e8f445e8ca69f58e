use Rattle.std.proofs.Common.{ℕ, List, [], ◌∷◌}
use Rattle.vg_isa.specs.declared.expr.Expr.{Expr}
use Rattle.vg_graph.specs.Building.{AreTyped, Extends, IsReady, StandAll, from_top, weight_of}
use Rattle.vg_graph.proofs.building.add_tree.Given as goal

abbrev pub invariant-loop-task : goal.invariant-loop-task
invariant-loop-task l = record {
  extends : Extends l.initial.graph l.graph;
  typed : AreTyped l.graph.isa (from_top l.tasks.items []);
  ready : (done : List Expr) × StandAll l.graph.nodes l.values.items done × IsReady (from_top l.tasks.items []) done (l.e ∷ []);
}

abbrev pub decreases-loop-task : goal.decreases-loop-task
decreases-loop-task l = weight_of (from_top l.tasks.items [])
