use Rattle.std.proofs.Common.{ℕ, List, sym, subst}
use Rattle.vg_graph.specs.Order.{IsOrder}
use Rattle.vg_graph.proofs.OrderLemmas.{are_trees}
use Rattle.vg_graph.proofs.evaluation.value_at.Goals as goal

pub operands_first-requires-clause-trees : goal.operands_first-requires-clause-trees
operands_first-requires-clause-trees g c = are_trees c.args.isa.now c.args.nodes.now c.requires.trees

pub put_values-requires-clause-order : goal.put_values-requires-clause-order
put_values-requires-clause-order g c = subst (λ (order : List ℕ). IsOrder c.args.nodes.now order) (sym c.as_slice.ensures.value) c.in_ok-order.ensures.order
