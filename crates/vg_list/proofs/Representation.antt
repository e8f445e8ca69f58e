-- What the links of an arena say of the lists that they make.
use Rattle.std.proofs.Common.{◌≡◌, ◌≢◌, ℕ, suc, ◌<◌, ◌≤◌, ◌⊎◌, inl, inr, List, [], length, map, Some, None, sym, refl, ap, ◌∙◌, subst, arith}
use Rattle.std.specs.Prelude.{slice_get}
use Rattle.std.specs.List.{range_with_len}
use Rattle.std.proofs.lemmas.Bool.{cases_lt}
use Rattle.std.proofs.lemmas.List.{get_or_past, ext_get_or}
use Rattle.std.proofs.lemmas.List.FromFn.{length-map-range_with_len, get_or-map-range_with_len}
use Rattle.vg_list.specs.declared.link.Link.{Link}
use Rattle.vg_list.specs.declared.link.Link.TheVariants.{Node, Sentinel, Unlinked}
use Rattle.vg_list.specs.declared.arena.Arena.{Arena}
use Rattle.vg_list.specs.Link.{node_of}
use Rattle.vg_list.specs.NodeLists.{NodeLists, nodes_of, IsAt, IsDisjoint}
use Rattle.vg_list.specs.Arena.{next_link, prev_link, no_links, IsInRange, IsChain, nodes_from, lists_of, Represents, IsSound, SameCounts}
use Rattle.vg_list.proofs.Chains.{nodes_from-IsChain, leads_from_place, node_unlinked, sentinel_unlinked, one_place, node_of-next, node_of-first, nil_from_first, next-prev, prev-next, next-prev_end, prev-next_first}
use Rattle.vg_list.proofs.Places.{length-le_from_places}

-- whether a link leads nowhere
pub leads_or_not : (link : Link) → (link ≡ Unlinked) ⊎ (link ≢ Unlinked)
leads_or_not (Node node) = inr (λ same. cc)
leads_or_not (Sentinel list) = inr (λ same. cc)
leads_or_not Unlinked = inl refl

-- a link that leads somewhere starts at a node or list that is there
pub in_range_from_next : (a : Arena) (link : Link) → next_link a link ≢ Unlinked → IsInRange a link
in_range_from_next a (Node node) leads = elim (cases_lt node (length a.nodes.items)) [
  | inl below ↦ below
  | inr past ↦ absurd (leads (ap (λ links. links.next) (get_or_past a.nodes.items node no_links past)))
]
in_range_from_next a (Sentinel list) leads = elim (cases_lt list (length a.sentinels.items)) [
  | inl below ↦ below
  | inr past ↦ absurd (leads (ap (λ links. links.next) (get_or_past a.sentinels.items list no_links past)))
]
in_range_from_next a Unlinked leads = absurd (leads refl)

-- and so does a link back
pub in_range_from_prev : (a : Arena) (link : Link) → prev_link a link ≢ Unlinked → IsInRange a link
in_range_from_prev a (Node node) leads = elim (cases_lt node (length a.nodes.items)) [
  | inl below ↦ below
  | inr past ↦ absurd (leads (ap (λ links. links.prev) (get_or_past a.nodes.items node no_links past)))
]
in_range_from_prev a (Sentinel list) leads = elim (cases_lt list (length a.sentinels.items)) [
  | inl below ↦ below
  | inr past ↦ absurd (leads (ap (λ links. links.prev) (get_or_past a.sentinels.items list no_links past)))
]
in_range_from_prev a Unlinked leads = absurd (leads refl)

-- what is there stays while the counts do
pub IsInRange_kept : (a b : Arena) (link : Link) → SameCounts a b → IsInRange a link → IsInRange b link
IsInRange_kept a b (Node node) counts there = omega (arith, counts.nodes)
IsInRange_kept a b (Sentinel list) counts there = omega (arith, counts.sentinels)
IsInRange_kept a b Unlinked counts there = absurd there

-- sound links represent the value that is seen of them
pub Represents_from_IsSound : (a : Arena) (all : NodeLists) → IsSound a → lists_of a ≡ all → Represents a all
Represents_from_IsSound a all sound is = subst (λ (v : NodeLists). Represents a v) is sound

nothing_in_none : (node : ℕ) → None ≡ Some node → ⊥
nothing_in_none node same = cc

-- a list with a node at a place is there
pub list_in_range : (all : NodeLists) (list place node : ℕ) → IsAt all list place node → list < length all.lists
list_in_range all list place node at = elim (cases_lt list (length all.lists)) [
  | inl below ↦ below
  | inr past ↦ absurd (nothing_in_none node (ap (λ (xs : List ℕ). slice_get xs place) (sym (get_or_past all.lists list [] past)) ∙ at))
]

module _ (a : Arena) (all : NodeLists) (sound : Represents a all) where
  -- the ring of a list with a node at a place
  pub ring_at : (list place node : ℕ) → IsAt all list place node → IsChain (next_link a) (prev_link a) (Sentinel list) (nodes_of all list) (Sentinel list)
  ring_at list place node at = sound.rings list (list_in_range all list place node at)

  -- a linked node has links, and is there
  pub leads_from_at : (list place node : ℕ) → IsAt all list place node → next_link a (Node node) ≢ Unlinked
  leads_from_at list place node at =
      leads_from_place (next_link a) (prev_link a) (Sentinel list) (nodes_of all list) list place node (ring_at list place node at) at

  pub node_in_range : (list place node : ℕ) → IsAt all list place node → node < length a.nodes.items
  node_in_range list place node at = in_range_from_next a (Node node) (leads_from_at list place node at)

  pub IsDisjoint_from_sound : IsDisjoint all
  IsDisjoint_from_sound node list place other_list other_place at at' =
      one_place
      (next_link a)
      (prev_link a)
      list
      other_list
      place
      other_place
      node
      (nodes_of all list)
      (nodes_of all other_list)
      (ring_at list place node at)
      (ring_at other_list other_place node at')
      at
      at'

  pub length-nodes_of-le : (list : ℕ) → length (nodes_of all list) ≤ length a.nodes.items
  length-nodes_of-le list =
      length-le_from_places
      (nodes_of all list)
      (length a.nodes.items)
      (λ i j n at at'. (IsDisjoint_from_sound n list i list j at at').1)
      (λ place n at. node_in_range list place n at)

  -- the lists that the links make are these
  pub lists_of-Represents : lists_of a ≡ all
  unfolding lists_of
  lists_of-Represents =
      let count = length a.nodes.items in
      let walk = λ (list : ℕ). nodes_from count (next_link a) (next_link a (Sentinel list)) in
      let same : map walk (range_with_len 0 (length a.sentinels.items)) ≡ all.lists =
      ext_get_or
      []
      _
      _
      (length-map-range_with_len walk 0 (length a.sentinels.items) ∙ sym sound.list_count)
      (λ list below.
      let is_list : list < length a.sentinels.items = omega (arith, length-map-range_with_len walk 0 (length a.sentinels.items)) in
      get_or-map-range_with_len walk 0 (length a.sentinels.items) list list [] is_list (omega arith)
      ∙ nodes_from-IsChain
      (next_link a)
      (prev_link a)
      count
      (Sentinel list)
      (nodes_of all list)
      list
      (sound.rings list (omega (arith, sound.list_count)))
      (length-nodes_of-le list)
      )
      in
      let made : NodeLists = record { nodes = count; lists = map walk (range_with_len 0 (length a.sentinels.items)) } in
      let step : made ≡ record { nodes = count; lists = all.lists } = ap (λ (lists : List (List ℕ)). let r : NodeLists = record { nodes = count; lists = lists } in r) same in
      step ∙ ap (λ (nodes : ℕ). let r : NodeLists = record { nodes = nodes; lists = all.lists } in r) (sym sound.node_count)

  -- what the code reads: the first node of a list, the next one, and whether a node is linked
  pub node_of-first_link : (list : ℕ) → list < length all.lists → node_of (next_link a (Sentinel list)) ≡ slice_get (nodes_of all list) 0
  node_of-first_link list below = node_of-first (next_link a) (prev_link a) (Sentinel list) (nodes_of all list) list (sound.rings list below)

  pub nodes_of-from_first : (list : ℕ) → list < length all.lists → ((x : ℕ) → next_link a (Sentinel list) ≡ Node x → ⊥) → nodes_of all list ≡ []
  nodes_of-from_first list below none = nil_from_first (next_link a) (prev_link a) (Sentinel list) (nodes_of all list) (Sentinel list) (sound.rings list below) none

  pub node_of-next_link : (list place node : ℕ) → IsAt all list place node → node_of (next_link a (Node node)) ≡ slice_get (nodes_of all list) (suc place)
  node_of-next_link list place node at =
      node_of-next (next_link a) (prev_link a) (Sentinel list) (nodes_of all list) list place node (ring_at list place node at) at

  -- the neighbours of a linked node and of a sentinel are there
  pub prev_in_range : (list place node : ℕ) → IsAt all list place node → IsInRange a (prev_link a (Node node))
  prev_in_range list place node at =
      in_range_from_next a (prev_link a (Node node)) (λ none. node_unlinked node (sym (next-prev (next_link a) (prev_link a) (Sentinel list) (nodes_of all list) list place node (ring_at list place node at) at) ∙ none))

  pub next_in_range : (list place node : ℕ) → IsAt all list place node → IsInRange a (next_link a (Node node))
  next_in_range list place node at =
      in_range_from_prev a (next_link a (Node node)) (λ none. node_unlinked node (sym (prev-next (next_link a) (prev_link a) (Sentinel list) (nodes_of all list) list place node (ring_at list place node at) at) ∙ none))

  pub last_in_range : (list : ℕ) → list < length all.lists → IsInRange a (prev_link a (Sentinel list))
  last_in_range list below =
      in_range_from_next a (prev_link a (Sentinel list)) (λ none. sentinel_unlinked list (sym (next-prev_end (next_link a) (prev_link a) (Sentinel list) (nodes_of all list) list (sound.rings list below)) ∙ none))

  pub first_in_range : (list : ℕ) → list < length all.lists → IsInRange a (next_link a (Sentinel list))
  first_in_range list below =
      in_range_from_prev a (next_link a (Sentinel list)) (λ none. sentinel_unlinked list (sym (prev-next_first (next_link a) (prev_link a) (Sentinel list) (nodes_of all list) list (sound.rings list below)) ∙ none))
