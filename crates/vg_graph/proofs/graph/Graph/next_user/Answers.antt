use Rattle.std.proofs.Common.{◌<◌, length, sym, subst}
use Rattle.vg_graph.specs.Graph.{GraphValue, AreUsers, edges_of}
use Rattle.vg_graph.proofs.WholeLemmas.{edge_linked, whole_users}
use Rattle.vg_graph.proofs.graph.Graph.next_user.Goals as goal

pub next-requires : goal.next-requires
next-requires c = edge_linked c.self.inside.store c.args.e c.self.invariant.store (subst (λ (g : GraphValue). c.args.e < length (edges_of g.nodes)) (sym c.self.view_is) c.requires)

pub returns-clause-users : goal.returns-clause-users
returns-clause-users c = subst AreUsers c.self.view_is (whole_users c.self.inside.isa.now c.self.inside.store c.self.inside.roots c.self.invariant c.next.ensures.disjoint)
