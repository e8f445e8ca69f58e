-- The nodes of a graph with their edges, as they are kept.
use Rattle.std.specs.Prelude.{◌≡◌, ℕ, ◌<◌, List, [], ◌∷◌, ◌++◌, length, ◌+◌, ◌≤◌, vec_len, vec_capacity, slice_get, slice_set, Some, ◌⊎◌}
use Rattle.vg_list.specs.NodeLists.{NodeLists, IsLinked}
use Rattle.vg_graph.specs.declared.store.Store.{Store}
use Rattle.vg_graph.specs.Graph.{edges_of, AreExact, with_users}
use Rattle.vg_graph.specs.Node.{args_of}
use Rattle.vg_graph.specs.declared.node.Node.{Node}
use Rattle.vg_graph.specs.Table.{IsIndexed}

-- all edges that are in a list are below this one
abbrev pub LinkedBelow : NodeLists → ℕ → Type 0
LinkedBelow users end = (e : ℕ) → IsLinked users e → e < end

-- nodes, edges, users and table belong together
pub record IsStore (store : Store) : Type 0 where
  pub edges : store.edges.items ≡ edges_of store.nodes.items
  pub edge_count : store.users.nodes ≡ length store.edges.items
  pub user_lists : length store.users.lists ≡ length store.nodes.items
  pub exact : AreExact store.nodes.items store.users.lists
  pub indexed : IsIndexed store.nodes.items store.table

-- there is room for one node more
pub record IsRoomy (store : Store) (node : Node) : Type 0 where
  pub edges : store.edges.items ≡ edges_of store.nodes.items
  pub edge_count : store.users.nodes ≡ length store.edges.items + length (args_of node)
  pub below : LinkedBelow store.users (length store.edges.items)
  pub indexed : IsIndexed store.nodes.items store.table
  pub table_room : length store.nodes.items < store.table.room
  pub node_room : vec_len store.nodes < vec_capacity store.nodes
  pub edge_room : vec_len store.edges + length (args_of node) ≤ vec_capacity store.edges

-- nodes and users are as before
pub record SameNodes (old new : Store) : Type 0 where
  pub nodes : new.nodes.items ≡ old.nodes.items
  pub users : new.users.lists ≡ old.users.lists

-- the node was there, and nothing changes
pub record IsPresent (old new : Store) (node : Node) (n : ℕ) : Type 0 where
  pub found : slice_get old.nodes.items n ≡ Some node
  pub same : SameNodes old new

-- the node wasn't there, and is put behind the others
pub record IsAppended (old new : Store) (node : Node) (n : ℕ) : Type 0 where
  pub absent : (m : ℕ) → slice_get old.nodes.items m ≡ Some node → ⊥
  pub number : n ≡ length old.nodes.items
  pub nodes : new.nodes.items ≡ old.nodes.items ++ node ∷ []
  pub users : new.users.lists ≡ with_users (old.users.lists ++ [] ∷ []) (length (edges_of old.nodes.items)) (args_of node)

-- the store after a node was asked for
abbrev pub IsStoreAdded : Store → Store → Node → ℕ → Type 0
IsStoreAdded old new node n = IsPresent old new node n ⊎ IsAppended old new node n

-- the operand at a place of the node n is this one, and all else is as before
pub record IsRetargeted (old new : List Node) (n place to : ℕ) : Type 0 where
  pub node : Node
  pub changed : Node
  pub stands : slice_get old n ≡ Some node
  pub below : place < length (args_of node)
  pub nodes : new ≡ slice_set old n changed
  pub op : changed.op ≡ node.op
  pub args : args_of changed ≡ slice_set (args_of node) place to
