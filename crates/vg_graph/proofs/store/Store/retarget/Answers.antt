use Rattle.std.proofs.Common.{◌<◌, ◌≤◌, length, sym, subst, refl, set, rules, arith}
use Rattle.std.proofs.lemmas.Option.{slice_get_within}
use Rattle.vg_graph.specs.declared.node.Node.{Node}
use Rattle.vg_graph.specs.declared.table.Table.{Table}
use Rattle.vg_graph.specs.Table.{IsIndexed}
use Rattle.vg_graph.proofs.RetargetLemmas.{edge_at, node_at}
use Rattle.vg_graph.proofs.TableLemmas.{IsLinked-indexed, IsIndexed-reassigned}
use Rattle.vg_graph.proofs.store.Store.retarget.Goals as goal

pub index-node-requires : goal.index-node-requires
index-node-requires c =
    let edge = edge_at c.args.self.now.nodes.items c.args.self.now.edges.items c.args.e c.index.result.now c.requires.edges c.requires.edge c.index.ensures in
    let below : c.index.result.now.0 < length c.args.self.now.nodes.items = slice_get_within c.args.self.now.nodes.items c.index.result.now.0 edge.1.node edge.1.stands in
    search rules

pub with-requires : goal.with-requires
with-requires c =
    let edge = edge_at c.args.self.now.nodes.items c.args.self.now.edges.items c.args.e c.index.result.now c.requires.edges c.requires.edge c.index.ensures in
    (node_at c.args.self.now.nodes.items c.index.result.now c.index-node.result.now edge.1 c.index-node.ensures).1

pub reassign-requires-clause-within : goal.reassign-requires-clause-within
reassign-requires-clause-within c =
    let edge = edge_at c.args.self.now.nodes.items c.args.self.now.edges.items c.args.e c.index.result.now c.requires.edges c.requires.edge c.index.ensures in
    let below : c.index.result.now.0 < length c.args.self.now.nodes.items = slice_get_within c.args.self.now.nodes.items c.index.result.now.0 edge.1.node edge.1.stands in
    let fits : length c.args.self.now.nodes.items ≤ c.args.self.now.table.room = c.requires.indexed.fits in
    omega arith

pub reassign-requires-clause-linked : goal.reassign-requires-clause-linked
reassign-requires-clause-linked c =
    let edge = edge_at c.args.self.now.nodes.items c.args.self.now.edges.items c.args.e c.index.result.now c.requires.edges c.requires.edge c.index.ensures in
    IsLinked-indexed c.args.self.now.nodes.items c.args.self.now.table c.index.result.now.0 edge.1.node c.requires.indexed edge.1.stands

pub index_mut-requires : goal.index_mut-requires
index_mut-requires c =
    let edge = edge_at c.args.self.now.nodes.items c.args.self.now.edges.items c.args.e c.index.result.now c.requires.edges c.requires.edge c.index.ensures in
    let below : c.index.result.now.0 < length c.args.self.now.nodes.items = slice_get_within c.args.self.now.nodes.items c.index.result.now.0 edge.1.node edge.1.stands in
    search rules

pub returns-clause-nodes : goal.returns-clause-nodes
returns-clause-nodes c =
    let edge = edge_at c.args.self.now.nodes.items c.args.self.now.edges.items c.args.e c.index.result.now c.requires.edges c.requires.edge c.index.ensures in
    let at = node_at c.args.self.now.nodes.items c.index.result.now c.index-node.result.now edge.1 c.index-node.ensures in (
      c.index.result.now,
      edge.0,
      record {
        node = c.index-node.result.now;
        changed = record { op = c.index-node.result.now.op; args = c.with.result };
        stands = at.0;
        below = at.1;
        nodes = refl;
        op = refl;
        args = c.with.ensures;
      },
    )

pub returns-clause-indexed : goal.returns-clause-indexed
returns-clause-indexed c =
    let edge = edge_at c.args.self.now.nodes.items c.args.self.now.edges.items c.args.e c.index.result.now c.requires.edges c.requires.edge c.index.ensures in
    let below : c.index.result.now.0 < length c.args.self.now.nodes.items = slice_get_within c.args.self.now.nodes.items c.index.result.now.0 edge.1.node edge.1.stands in
    let changed : Node = record { op = c.index-node.result.now.op; args = c.with.result } in
    subst (λ (t : Table). IsIndexed (set c.args.self.now.nodes.items c.index.result.now.0 changed) t) (sym c.reassign.ensures) (IsIndexed-reassigned c.args.self.now.nodes.items c.args.self.now.table c.index.result.now.0 changed c.requires.indexed below)
