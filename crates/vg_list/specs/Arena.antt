-- The links of an arena, and the lists that they make.
use Rattle.std.specs.Prelude.{◌≡◌, ◌≢◌, ℕ, zero, suc, ◌<◌, List, [], ◌∷◌, ◌++◌, length, map, replicate, slice_index_or}
use Rattle.std.specs.List.{range_with_len}
use Rattle.vg_list.specs.declared.link.Link.{Link}
use Rattle.vg_list.specs.declared.link.Link.TheVariants.{Node, Sentinel, Unlinked}
use Rattle.vg_list.specs.declared.links.Links.{Links}
use Rattle.vg_list.specs.declared.arena.Arena.{Arena}
use Rattle.vg_list.specs.NodeLists.{NodeLists, nodes_of, IsLinked}

-- the links of a node that is in no list
abbrev pub no_links : Links
no_links = record { prev = Unlinked; next = Unlinked }

-- where the link to what follows leads
abbrev pub next_link : Arena → Link → Link
next_link a (Node node) = (slice_index_or a.nodes.items node no_links).next
next_link a (Sentinel list) = (slice_index_or a.sentinels.items list no_links).next
next_link a Unlinked = Unlinked

-- where the link to what stands before leads
abbrev pub prev_link : Arena → Link → Link
prev_link a (Node node) = (slice_index_or a.nodes.items node no_links).prev
prev_link a (Sentinel list) = (slice_index_or a.sentinels.items list no_links).prev
prev_link a Unlinked = Unlinked

-- the node or the list of this number is there
abbrev pub IsInRange : Arena → Link → Type 0
IsInRange a (Node node) = node < length a.nodes.items
IsInRange a (Sentinel list) = list < length a.sentinels.items
IsInRange a Unlinked = ⊥

-- the link that follows `at` leads to `to`, and each other link is as before
pub record SetsNext (old new : Arena) (at to : Link) : Type 0 where
  pub here : next_link new at ≡ to
  pub others : (link : Link) → link ≢ at → next_link new link ≡ next_link old link
  pub back : (link : Link) → prev_link new link ≡ prev_link old link

-- the link before `at` leads to `to`, and each other link is as before
pub record SetsPrev (old new : Arena) (at to : Link) : Type 0 where
  pub here : prev_link new at ≡ to
  pub others : (link : Link) → link ≢ at → prev_link new link ≡ prev_link old link
  pub forth : (link : Link) → next_link new link ≡ next_link old link

-- `after` follows `before`, by both links between them, and each other link is as before
pub record Joins (old new : Arena) (before after : Link) : Type 0 where
  pub next_here : next_link new before ≡ after
  pub next_others : (link : Link) → link ≢ before → next_link new link ≡ next_link old link
  pub prev_here : prev_link new after ≡ before
  pub prev_others : (link : Link) → link ≢ after → prev_link new link ≡ prev_link old link

-- the node has no links, and each other link is as before
pub record Clears (old new : Arena) (node : ℕ) : Type 0 where
  pub next_here : next_link new (Node node) ≡ Unlinked
  pub next_others : (link : Link) → link ≢ Node node → next_link new link ≡ next_link old link
  pub prev_others : (link : Link) → link ≢ Node node → prev_link new link ≡ prev_link old link

-- there are as many nodes and lists as before
pub record SameCounts (old new : Arena) : Type 0 where
  pub nodes : length new.nodes.items ≡ length old.nodes.items
  pub sentinels : length new.sentinels.items ≡ length old.sentinels.items

-- the links of the sentinel of an empty list
abbrev pub empty_ring : ℕ → Links
empty_ring list = record { prev = Sentinel list; next = Sentinel list }

-- this many nodes without links and this many empty lists come behind those that were there
pub record Grows (old new : Arena) (more_nodes more_lists : ℕ) : Type 0 where
  pub nodes : new.nodes.items ≡ old.nodes.items ++ replicate more_nodes no_links
  pub sentinels : new.sentinels.items ≡ old.sentinels.items ++ map empty_ring (range_with_len (length old.sentinels.items) more_lists)

-- all links are as before
pub record SameLinks (old new : Arena) : Type 0 where
  pub nodes : new.nodes.items ≡ old.nodes.items
  pub sentinels : new.sentinels.items ≡ old.sentinels.items

-- the nodes from this link on, at most `count` of them
abbrev pub nodes_from : ℕ → (Link → Link) → Link → List ℕ
nodes_from zero next link = []
nodes_from (suc count) next (Node node) = node ∷ nodes_from count next (next (Node node))
nodes_from (suc count) next (Sentinel list) = []
nodes_from (suc count) next Unlinked = []

-- the lists that the links make: each goes on from its sentinel. A list is no longer than there are nodes
unfoldable pub lists_of : Arena → NodeLists
lists_of a = record {
  nodes = length a.nodes.items;
  lists =
      map
      (λ list. nodes_from (length a.nodes.items) (next_link a) (next_link a (Sentinel list)))
      (range_with_len 0 (length a.sentinels.items));
}

-- the links lead from one end over these nodes, in order, to the other end, and back
abbrev pub IsChain : (Link → Link) → (Link → Link) → Link → List ℕ → Link → Type 0
IsChain next prev from [] to = (next from ≡ to) × (prev to ≡ from)
IsChain next prev from (x ∷ xs) to = (next from ≡ Node x) × (prev (Node x) ≡ from) × IsChain next prev (Node x) xs to

-- the links are those of these lists: each list is a ring with its sentinel, and a node with links is in a list
pub record Represents (a : Arena) (all : NodeLists) : Type 0 where
  pub node_count : all.nodes ≡ length a.nodes.items
  pub list_count : length all.lists ≡ length a.sentinels.items
  pub rings : (list : ℕ) → list < length all.lists → IsChain (next_link a) (prev_link a) (Sentinel list) (nodes_of all list) (Sentinel list)
  pub linked : (node : ℕ) → next_link a (Node node) ≢ Unlinked → IsLinked all node

-- the links make lists
abbrev pub IsSound : Arena → Type 0
IsSound a = Represents a (lists_of a)
