use Rattle.std.proofs.Common.{◌≡◌, ℕ, map}
use Rattle.std.specs.Prelude.{slice_get}
use Rattle.vg_graph.specs.Graph.{edges_of, users_at}
use Rattle.vg_graph.specs.Replaced.{renamed_node}
use Rattle.vg_graph.specs.Table.{IsIndexed}
use Rattle.vg_graph.specs.Walk.{IsOnce, left_at}
use Rattle.vg_graph.proofs.RetargetLemmas.{AreLeft, NameEither}
use Rattle.vg_graph.proofs.store.Store.replace.Given as goal

abbrev pub invariant-loop-current : goal.invariant-loop-current
invariant-loop-current l =
    let xs = users_at l.self.users.lists l.old in
    record {
      edges : l.self.edges.items ≡ edges_of l.self.nodes.items;
      edges_same : l.self.edges.items ≡ l.initial.self.edges.items;
      users : l.self.users ≡ l.initial.self.users;
      indexed : IsIndexed l.self.nodes.items l.self.table;
      renamed : map (renamed_node l.old l.new) l.self.nodes.items ≡ map (renamed_node l.old l.new) l.initial.self.nodes.items;
      once : IsOnce xs;
      either : NameEither l.self.nodes.items l.old l.new xs;
      walk : (place : ℕ) × (l.current ≡ slice_get xs place) × AreLeft l.self.nodes.items l.old xs place;
    }

abbrev pub decreases-loop-current : goal.decreases-loop-current
decreases-loop-current l = left_at (users_at l.self.users.lists l.old) l.current
