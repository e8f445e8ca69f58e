-- What the lists are in a new arena, and in one that has grown.
use Rattle.std.proofs.Common.{◌≡◌, ◌≢◌, ℕ, zero, suc, ◌+◌, ◌-◌, ◌<◌, ◌≤◌, inl, inr, List, [], ◌∷◌, ◌++◌, length, map, get_or, replicate, sym, refl, ap, ◌∙◌, arith, length-append, subst, zero-add, Result, Ok, Err}
use Rattle.std.specs.Prelude.{OnOk, OnErr}
use Rattle.std.specs.List.{range_with_len}
use Rattle.std.proofs.lemmas.Bool.{cases_lt}
use Rattle.std.proofs.lemmas.List.{get_or_past, get_or_append_left, get_or-append_right, length-replicate}
use Rattle.std.proofs.lemmas.List.FromFn.{length-map-range_with_len, get_or-map-range_with_len}
use Rattle.vg_list.specs.declared.link.Link.{Link}
use Rattle.vg_list.specs.declared.link.Link.TheVariants.{Node, Sentinel, Unlinked}
use Rattle.vg_list.specs.declared.arena.Arena.{Arena}
use Rattle.vg_list.specs.NodeLists.{NodeLists, nodes_of}
use Rattle.vg_list.specs.Arena.{no_links, empty_ring, next_link, prev_link, lists_of, Represents, IsSound, Grows, SameLinks}
use Rattle.vg_list.proofs.Chains.{sentinel_unlinked, IsChain_kept}
use Rattle.vg_list.proofs.Representation.{in_range_from_next, in_range_from_prev, lists_of-Represents}
use Rattle.vg_list.proofs.Changes.{IsSound_from_Represents}

get_or-replicate_default : {X : Type 0} (n k : ℕ) (d : X) → get_or (replicate n d) k d ≡ d
get_or-replicate_default zero k d = refl
get_or-replicate_default (suc n) zero d = refl
get_or-replicate_default (suc n) (suc k) d = get_or-replicate_default n k d

-- copies of the default at the end change no look-up
get_or-append-replicate : {X : Type 0} (xs : List X) (n k : ℕ) (d : X) → get_or (xs ++ replicate n d) k d ≡ get_or xs k d
get_or-append-replicate [] n k d = get_or-replicate_default n k d
get_or-append-replicate (x ∷ xs) n zero d = refl
get_or-append-replicate (x ∷ xs) n (suc k) d = get_or-append-replicate xs n k d

-- the same links lead to the same places
next_same : (a b : Arena) → SameLinks a b → (link : Link) → next_link b link ≡ next_link a link
next_same a b same (Node node) = ap (λ items. (get_or items node no_links).next) same.nodes
next_same a b same (Sentinel list) = ap (λ items. (get_or items list no_links).next) same.sentinels
next_same a b same Unlinked = refl

prev_same : (a b : Arena) → SameLinks a b → (link : Link) → prev_link b link ≡ prev_link a link
prev_same a b same (Node node) = ap (λ items. (get_or items node no_links).prev) same.nodes
prev_same a b same (Sentinel list) = ap (λ items. (get_or items list no_links).prev) same.sentinels
prev_same a b same Unlinked = refl

-- the same links represent the same lists
pub Represents_from_SameLinks : (a b : Arena) (all : NodeLists) → Represents a all → SameLinks a b → Represents b all
Represents_from_SameLinks a b all sound same =
    let forth : (link : Link) → next_link b link ≡ next_link a link = next_same a b same in
    let back : (link : Link) → prev_link b link ≡ prev_link a link = prev_same a b same in
    record {
      node_count = sound.node_count ∙ sym (ap length same.nodes);
      list_count = sound.list_count ∙ sym (ap length same.sentinels);
      rings = λ l below.
          IsChain_kept
          (next_link a)
          (prev_link a)
          (next_link b)
          (prev_link b)
          (λ link leads. forth link)
          (λ link leads. back link)
          (Sentinel l)
          (nodes_of all l)
          l
          (sentinel_unlinked l)
          (sound.rings l below);
      linked = λ node leads. sound.linked node (λ none. leads (forth (Node node) ∙ none));
    }

-- an arena without nodes and lists
pub Represents_nothing : (a : Arena) → a.nodes.items ≡ [] → a.sentinels.items ≡ [] → Represents a (record { nodes = 0; lists = [] })
Represents_nothing a no_nodes no_lists = record {
  node_count = sym (ap length no_nodes);
  list_count = sym (ap length no_lists);
  rings = λ l below. absurd (omega arith);
  linked = λ node leads. absurd (leads (ap (λ items. (get_or items node no_links).next) no_nodes));
}

-- more nodes and lists
abbrev pub grown : NodeLists → ℕ → ℕ → NodeLists
grown all more_nodes more_lists = record {
  nodes = all.nodes + more_nodes;
  lists = all.lists ++ replicate more_lists [];
}

-- the lists that are new are empty, like those that aren't there
pub nodes_of-grown : (all : NodeLists) (more_nodes more_lists list : ℕ) → nodes_of (grown all more_nodes more_lists) list ≡ nodes_of all list
nodes_of-grown all more_nodes more_lists list = get_or-append-replicate all.lists more_lists list []

module _ (a b : Arena) (all : NodeLists) (more_nodes more_lists : ℕ) (sound : Represents a all) (grows : Grows a b more_nodes more_lists) where
  node_next : (node : ℕ) → next_link b (Node node) ≡ next_link a (Node node)
  node_next node = ap (λ items. (get_or items node no_links).next) grows.nodes ∙ ap (λ links. links.next) (get_or-append-replicate a.nodes.items more_nodes node no_links)

  node_prev : (node : ℕ) → prev_link b (Node node) ≡ prev_link a (Node node)
  node_prev node = ap (λ items. (get_or items node no_links).prev) grows.nodes ∙ ap (λ links. links.prev) (get_or-append-replicate a.nodes.items more_nodes node no_links)

  next_kept : (link : Link) → next_link a link ≢ Unlinked → next_link b link ≡ next_link a link
  next_kept (Node node) leads = node_next node
  next_kept (Sentinel list) leads =
      ap (λ items. (get_or items list no_links).next) grows.sentinels
      ∙ ap (λ links. links.next) (get_or_append_left a.sentinels.items _ no_links list (in_range_from_next a (Sentinel list) leads))
  next_kept Unlinked leads = refl

  prev_kept : (link : Link) → prev_link a link ≢ Unlinked → prev_link b link ≡ prev_link a link
  prev_kept (Node node) leads = node_prev node
  prev_kept (Sentinel list) leads =
      ap (λ items. (get_or items list no_links).prev) grows.sentinels
      ∙ ap (λ links. links.prev) (get_or_append_left a.sentinels.items _ no_links list (in_range_from_prev a (Sentinel list) leads))
  prev_kept Unlinked leads = refl

  -- the sentinel of a list that is new
  new_ring : (list : ℕ) → length a.sentinels.items ≤ list → list < length a.sentinels.items + more_lists → get_or b.sentinels.items list no_links ≡ empty_ring list
  new_ring list low high =
      let count = length a.sentinels.items in
      ap (λ items. get_or items list no_links) grows.sentinels
      ∙ get_or-append_right a.sentinels.items (map empty_ring (range_with_len count more_lists)) count list no_links refl low
      ∙ get_or-map-range_with_len empty_ring count more_lists (list - count) list no_links (omega arith) (omega arith)

  pub Represents_grown : Represents b (grown all more_nodes more_lists)
  Represents_grown =
      let lists_long = length-append all.lists (replicate more_lists []) in
      let lists_more : length (replicate more_lists []) ≡ more_lists = length-replicate more_lists [] in
      record {
        node_count =
            ap (λ (n : ℕ). n + more_nodes) sound.node_count
            ∙ ap (λ (n : ℕ). length a.nodes.items + n) (sym (length-replicate more_nodes no_links))
            ∙ sym (length-append a.nodes.items (replicate more_nodes no_links))
            ∙ sym (ap length grows.nodes);
        list_count =
            lists_long
            ∙ ap (λ (n : ℕ). length all.lists + n) lists_more
            ∙ ap (λ (n : ℕ). n + more_lists) sound.list_count
            ∙ ap (λ (n : ℕ). length a.sentinels.items + n) (sym (length-map-range_with_len empty_ring (length a.sentinels.items) more_lists))
            ∙ sym (length-append a.sentinels.items (map empty_ring (range_with_len (length a.sentinels.items) more_lists)))
            ∙ sym (ap length grows.sentinels);
        rings = λ l below. rw (nodes_of-grown all more_nodes more_lists l) (elim (cases_lt l (length all.lists)) [
          | inl old ↦
              IsChain_kept
              (next_link a)
              (prev_link a)
              (next_link b)
              (prev_link b)
              next_kept
              prev_kept
              (Sentinel l)
              (nodes_of all l)
              l
              (sentinel_unlinked l)
              (sound.rings l old)
          | inr new ↦
              let ring = new_ring l (omega (arith, sound.list_count)) (omega (arith, sound.list_count, lists_long, lists_more)) in
              rw (get_or_past all.lists l [] new) (ap (λ links. links.next) ring, ap (λ links. links.prev) ring)
        ]);
        linked = λ node leads.
            let was = sound.linked node (λ none. leads (node_next node ∙ none)) in
            (was.0, was.1, rw (nodes_of-grown all more_nodes more_lists was.0) was.2);
      }

-- the lists after a call that grows the arena or leaves it as it was
pub after_growth : {T E : Type 0} (r : Result T E) (a b : Arena) (all : NodeLists) (more_nodes more_lists : ℕ) → Represents a all → OnOk r (Grows a b more_nodes more_lists) → OnErr r (SameLinks a b) → IsSound b × OnOk r (lists_of b ≡ grown all more_nodes more_lists) × OnErr r (lists_of b ≡ all)
after_growth (Ok x) a b all more_nodes more_lists sound grows same =
    let after = Represents_grown a b all more_nodes more_lists sound grows in
    (IsSound_from_Represents b (grown all more_nodes more_lists) after, lists_of-Represents b (grown all more_nodes more_lists) after, tt)
after_growth (Err e) a b all more_nodes more_lists sound grows same =
    let after = Represents_from_SameLinks a b all sound same in
    (IsSound_from_Represents b all after, tt, lists_of-Represents b all after)

-- the lists of an arena that has grown from nothing
pub from_nothing : (b : Arena) (a : Arena) (nodes lists : ℕ) → a.nodes.items ≡ [] → a.sentinels.items ≡ [] → Grows a b nodes lists → Represents b (record { nodes = nodes; lists = replicate lists [] })
from_nothing b a nodes lists no_nodes no_lists grows =
    let nothing : NodeLists = record { nodes = 0; lists = [] } in
    let after = Represents_grown a b nothing nodes lists (Represents_nothing a no_nodes no_lists) grows in
    subst (λ (n : ℕ). Represents b (record { nodes = n; lists = replicate lists [] })) (zero-add nodes) after
