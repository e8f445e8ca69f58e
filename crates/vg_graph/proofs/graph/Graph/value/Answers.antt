use Rattle.std.proofs.Common.{subst}
use Rattle.vg_graph.specs.Graph.{IsGraph}
use Rattle.vg_graph.proofs.WholeLemmas.{whole_graph}
use Rattle.vg_graph.proofs.graph.Graph.value.Goals as goal

pub returns-clause-graph : goal.returns-clause-graph
returns-clause-graph g c = subst IsGraph c.self.view_is (whole_graph c.self.inside.isa.now c.self.inside.store c.self.inside.roots c.self.invariant)
