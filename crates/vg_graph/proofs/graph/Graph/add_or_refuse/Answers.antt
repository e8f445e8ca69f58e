use Rattle.std.proofs.Common.{subst}
use Rattle.vg_graph.specs.Graph.{IsGraph}
use Rattle.vg_graph.proofs.WholeLemmas.{whole_graph}
use Rattle.vg_graph.proofs.graph.Graph.add_or_refuse.Goals as goal

pub returns-then-nodes-clause-graph : goal.returns-then-nodes-clause-graph
returns-then-nodes-clause-graph c = subst IsGraph c.self.view_is (whole_graph c.self.inside.isa.now c.self.inside.store c.self.inside.roots c.self.invariant)
