use Rattle.std.proofs.Common.{subst}
use Rattle.vg_graph.specs.Graph.{AreUsers}
use Rattle.vg_graph.proofs.WholeLemmas.{whole_users}
use Rattle.vg_graph.proofs.graph.Graph.first_user.Goals as goal

pub returns-clause-users : goal.returns-clause-users
returns-clause-users c = subst AreUsers c.self.view_is (whole_users c.self.inside.isa.now c.self.inside.store c.self.inside.roots c.self.invariant c.first.ensures.disjoint)
