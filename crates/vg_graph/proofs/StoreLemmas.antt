-- The nodes of a graph with their edges.
use Rattle.std.proofs.Common.{◌≡◌, ℕ, ◌+◌, ◌<◌, ◌≤◌, List, [], ◌∷◌, ◌++◌, length, sym, ap, ◌∙◌, subst, arith, replicate}
use Rattle.std.specs.Prelude.{Result, Ok, Err, OnErr, vec_len, vec_capacity}
use Rattle.vg_list.specs.NodeLists.{NodeLists, IsLinked}
use Rattle.vg_list.proofs.Linked.{IsLinked-grown}
use Rattle.vg_graph.specs.declared.node.Node.{Node}
use Rattle.vg_graph.specs.declared.store.Store.{Store}
use Rattle.vg_graph.specs.declared.table.Table.{Table}
use Rattle.vg_graph.specs.Node.{AllBelow, args_of}
use Rattle.vg_graph.specs.Graph.{edges_of, AreExact, places_of, with_users}
use Rattle.vg_graph.specs.Store.{IsRoomy, IsStore, LinkedBelow}
use Rattle.vg_graph.specs.Table.{IsIndexed, put_in}
use Rattle.vg_graph.proofs.EdgeLemmas.{edges_of-more, length-places}
use Rattle.vg_graph.proofs.TableLemmas.{IsIndexed-put}
use Rattle.std.proofs.lemmas.List.{length-append}
use Rattle.vg_graph.proofs.ExactLemmas.{AreExact-more, length-with_users, target_of-edge}
use Rattle.std.proofs.lemmas.Option.{slice_get_within}

-- a store of the same items is one, whatever the room
pub store_same : (old new : Store) → IsStore old → new.nodes.items ≡ old.nodes.items → new.edges.items ≡ old.edges.items → new.users ≡ old.users → IsIndexed old.nodes.items new.table → IsStore new
store_same old new store nodes edges users indexed = record {
  edges = edges ∙ store.edges ∙ ap edges_of (sym nodes);
  edge_count = ap (λ (l : NodeLists). l.nodes) users ∙ store.edge_count ∙ ap (λ (es : List (ℕ × ℕ)). length es) (sym edges);
  user_lists = ap (λ (l : NodeLists). length l.lists) users ∙ store.user_lists ∙ ap (λ (ns : List Node). length ns) (sym nodes);
  exact = subst (λ (ns : List Node). AreExact ns new.users.lists) (sym nodes) (subst (λ (l : NodeLists). AreExact old.nodes.items l.lists) (sym users) store.exact);
  indexed = subst (λ (ns : List Node). IsIndexed ns new.table) (sym nodes) indexed;
}

-- an edge that is in a list is one of the edges
pub store_below : (store : Store) → IsStore store → LinkedBelow store.users (length store.edges.items)
store_below store kept e linked =
    let target = (kept.exact linked.0 e).0 (linked.1, linked.2) in
    let found = target_of-edge store.nodes.items e linked.0 target in
    rw kept.edges (slice_get_within (edges_of store.nodes.items) e found.0 found.1)

-- the users of one node more
pub store_exact : (store : Store) (node : Node) → IsStore store → AllBelow (length store.nodes.items) (args_of node) → AreExact (store.nodes.items ++ node ∷ []) (with_users (store.users.lists ++ [] ∷ []) (length (edges_of store.nodes.items)) (args_of node))
store_exact store node kept all = AreExact-more store.nodes.items store.users.lists node kept.exact (higher (length store.nodes.items) (length store.users.lists + 1) (args_of node) (omega (arith, kept.user_lists)) all)
  where
    higher : (m n : ℕ) (ts : List ℕ) → m ≤ n → AllBelow m ts → AllBelow n ts
    higher m n [] le all = tt
    higher m n (t ∷ ts) le all = ((let below : t < m = all.0 in omega arith), higher m n ts le all.1)

-- the store with one node more behind the others
pub store_appended :
    (old new : Store) (node : Node)
    → IsRoomy old node
    → AreExact (old.nodes.items ++ node ∷ []) (with_users old.users.lists (length (edges_of old.nodes.items)) (args_of node))
    → length old.users.lists ≡ length old.nodes.items + 1
    → new.nodes.items ≡ old.nodes.items ++ node ∷ []
    → new.edges.items ≡ old.edges.items ++ places_of (length old.nodes.items) node
    → new.users.lists ≡ with_users old.users.lists (length (edges_of old.nodes.items)) (args_of node)
    → new.users.nodes ≡ old.users.nodes
    → new.table ≡ put_in old.table (length old.nodes.items) node
    → IsStore new
store_appended old new node roomy exact lists nodes edges users count table =
    let items = old.nodes.items in
    let all : edges_of (items ++ node ∷ []) ≡ old.edges.items ++ places_of (length items) node = edges_of-more items node ∙ ap (λ (es : List (ℕ × ℕ)). es ++ places_of (length items) node) (sym roomy.edges) in
    let more : length (old.edges.items ++ places_of (length items) node) ≡ length old.edges.items + length (args_of node) = length-append old.edges.items (places_of (length items) node) ∙ ap (λ (k : ℕ). length old.edges.items + k) (length-places (length items) 0 (args_of node)) in
    record {
      edges = edges ∙ sym all ∙ ap edges_of (sym nodes);
      edge_count = count ∙ roomy.edge_count ∙ sym more ∙ ap (λ (es : List (ℕ × ℕ)). length es) (sym edges);
      user_lists =
          ap (λ (us : List (List ℕ)). length us) users ∙ length-with_users old.users.lists (length (edges_of items)) (args_of node)
          ∙ lists ∙ sym (length-append items (node ∷ [])) ∙ ap (λ (ns : List Node). length ns) (sym nodes);
      exact = subst (λ (ns : List Node). AreExact ns new.users.lists) (sym nodes) (subst (λ (us : List (List ℕ)). AreExact (items ++ node ∷ []) us) (sym users) exact);
      indexed = subst (λ (ns : List Node). IsIndexed ns new.table) (sym nodes) (subst (λ (t : Table). IsIndexed (items ++ node ∷ []) t) (sym table) (IsIndexed-put items old.table node roomy.indexed roomy.table_room));
    }

-- what holds in any case holds where a call is refused
pub on_err : {T E P : Type 0} (r : Result T E) → P → OnErr r P
on_err (Ok x) p = tt
on_err (Err e) p = p

-- the store with room for one node more
pub store_roomy :
    (old new : Store) (node : Node)
    → IsStore old
    → new.nodes.items ≡ old.nodes.items
    → new.edges.items ≡ old.edges.items
    → new.users ≡ record { nodes = old.users.nodes + length (args_of node); lists = old.users.lists ++ replicate 1 [] }
    → IsIndexed old.nodes.items new.table
    → length old.nodes.items < new.table.room
    → vec_len new.nodes < vec_capacity new.nodes
    → vec_len new.edges + length (args_of node) ≤ vec_capacity new.edges
    → IsRoomy new node
store_roomy old new node kept nodes edges users indexed table_room node_room edge_room =
    let count : length new.edges.items ≡ length old.edges.items = ap (λ (es : List (ℕ × ℕ)). length es) edges in
    record {
      edges = edges ∙ kept.edges ∙ ap edges_of (sym nodes);
      edge_count = ap (λ (l : NodeLists). l.nodes) users ∙ ap (λ (n : ℕ). n + length (args_of node)) (kept.edge_count ∙ sym count);
      below = λ e linked.
          let before : IsLinked old.users e = (IsLinked-grown old.users e (length (args_of node)) 1).0 (subst (λ (l : NodeLists). IsLinked l e) users linked) in
          let below : e < length old.edges.items = store_below old kept e before in
          omega arith;
      indexed = subst (λ (ns : List Node). IsIndexed ns new.table) (sym nodes) indexed;
      table_room = subst (λ (ns : List Node). length ns < new.table.room) (sym nodes) table_room;
      node_room = node_room;
      edge_room = edge_room;
    }
