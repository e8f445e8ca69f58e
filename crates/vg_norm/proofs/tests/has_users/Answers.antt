use Rattle.std.proofs.Common.{◌+◌, sym, ◌∙◌}
use Rattle.vg_norm.proofs.Tested.{edge_within}
use Rattle.vg_norm.proofs.tests.has_users.Goals as goal

pub loop-edge-init : goal.loop-edge-init
loop-edge-init c = (0, c.first_user-current.ensures.edge)

pub user-requires : goal.user-requires
user-requires c =
    let walk = c.loop-edge.invariant in
    edge_within c.args.graph.now.nodes c.args.graph.now.users c.args.n c.in-Some.e walk.0 c.first_user-current.ensures.users.exact (sym walk.1 ∙ c.in-Some.is)

pub next_user-current-requires : goal.next_user-current-requires
next_user-current-requires c =
    let walk = c.loop-edge.invariant in
    edge_within c.args.graph.now.nodes c.args.graph.now.users c.args.n c.in-Some.e walk.0 c.first_user-current.ensures.users.exact (sym walk.1 ∙ c.in-Some.is)

pub loop-edge-preserved : goal.loop-edge-preserved
loop-edge-preserved c =
    let walk = c.loop-edge.invariant in
    (walk.0 + 1, c.next_user-current.ensures.edge c.args.n walk.0 (sym walk.1 ∙ c.in-Some.is))
