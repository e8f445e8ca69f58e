-- What the lists are after a change of links.
use Rattle.std.proofs.Common.{◌≡◌, ◌≢◌, ℕ, ◌<◌, inl, inr, List, [], ◌∷◌, ◌++◌, length, map, get_or, set, sym, refl, ap, ◌∙◌, subst, arith}
use Rattle.std.proofs.lemmas.Bool.Decides.{eqb_tells}
use Rattle.std.proofs.lemmas.List.{length-map, length-set, get_or-set_same, get_or-set_other, append-nil, set-get_or}
use Rattle.vg_list.specs.declared.link.Link.{Link}
use Rattle.vg_list.specs.declared.link.Link.TheVariants.{Node, Sentinel, Unlinked}
use Rattle.vg_list.specs.declared.arena.Arena.{Arena}
use Rattle.vg_list.specs.NodeLists.{NodeLists, nodes_of, IsAt, IsLinked, inserted_before, without}
use Rattle.vg_list.specs.Arena.{next_link, prev_link, IsChain, Represents, IsSound, Joins, Clears, SameCounts}
use Rattle.vg_list.proofs.Chains.{same_node, node_sentinel, node_unlinked, sentinel_unlinked, same_sentinel, next-prev, prev-next, next-prev_end, prev-next_first, prev_self, IsInsertion, IsRemoval, IsSplice, IsChain_inserted, IsChain_pushed, IsChain_not_pushed, IsChain_removed, IsChain_joined, IsChain_not_spliced}
use Rattle.vg_list.proofs.Places.{Has, Has-inserted_before, Has-inserted_before_node, Has-without, Has-append_left, Has-append_right, get_or-map_lists}
use Rattle.vg_list.proofs.Representation.{leads_or_not, lists_of-Represents, ring_at, leads_from_at}

-- links that represent lists are sound
pub IsSound_from_Represents : (a : Arena) (all : NodeLists) → Represents a all → IsSound a
IsSound_from_Represents a all sound = subst (λ (v : NodeLists). Represents a v) (sym (lists_of-Represents a all sound)) sound

-- a node in no list has no links
pub free_links : (a : Arena) (all : NodeLists) (node : ℕ) → Represents a all → (IsLinked all node → ⊥) → next_link a (Node node) ≡ Unlinked
free_links a all node sound free = elim (leads_or_not (next_link a (Node node))) [
  | inl none ↦ none
  | inr leads ↦ absurd (free (sound.linked node leads))
]

-- the same lists with one change made to each
abbrev pub changed : (List ℕ → List ℕ) → NodeLists → NodeLists
changed f all = record all { lists = map f all.lists }

-- the same lists with another list in place of one
abbrev pub with_list : NodeLists → ℕ → List ℕ → NodeLists
with_list all list xs = record all { lists = set all.lists list xs }

module _ (a b c : Arena) (all : NodeLists) (sound : Represents a all) (counts_b : SameCounts a b) (counts_c : SameCounts b c) where
  same_nodes : all.nodes ≡ length c.nodes.items
  same_nodes = omega (arith, sound.node_count, counts_b.nodes, counts_c.nodes)

  same_lists : length all.lists ≡ length c.sentinels.items
  same_lists = omega (arith, sound.list_count, counts_b.sentinels, counts_c.sentinels)

  -- two joins put a free node before a link
  insertion : (before after : Link) (node : ℕ) → next_link a before ≡ after → after ≢ Unlinked → after ≢ Node node → next_link a (Node node) ≡ Unlinked → Joins a b before (Node node) → Joins b c (Node node) after → IsInsertion (next_link a) (prev_link a) (next_link c) (prev_link c) before node after
  insertion before after node was leads other free one two =
      let apart : before ≢ Node node = λ same. leads (sym was ∙ ap (next_link a) same ∙ free) in
      record {
        was_before = was;
        was_free = free;
        from_before = two.next_others before apart ∙ one.next_here;
        to_after = two.next_here;
        next_others = λ link not_before not_node. two.next_others link not_node ∙ one.next_others link not_before;
        back_before = two.prev_others (Node node) (λ same. other (sym same)) ∙ one.prev_here;
        back_after = two.prev_here;
        prev_others = λ link not_node not_after. two.prev_others link not_after ∙ one.prev_others link not_node;
      }

  -- a node with links after an insertion had some before, or is the one put in
  linked_before : (before after : Link) (node : ℕ) → after ≢ Unlinked → IsInsertion (next_link a) (prev_link a) (next_link c) (prev_link c) before node after → (n : ℕ) → n ≢ node → next_link c (Node n) ≢ Unlinked → IsLinked all n
  linked_before before after node leads change n other linked = elim (leads_or_not (next_link a (Node n))) [
    | inr had ↦ sound.linked n had
    | inl none ↦ absurd (linked (
        change.next_others
        (Node n)
        (λ same. leads (sym change.was_before ∙ ap (next_link a) (sym same) ∙ none))
        (λ same. other (same_node n node same))
        ∙ none
        ))
  ]

  pub Represents_inserted : (at node : ℕ) → IsLinked all at → (IsLinked all node → ⊥) → Joins a b (prev_link a (Node at)) (Node node) → Joins b c (Node node) (Node at) → Represents c (changed (inserted_before at node) all)
  Represents_inserted at node linked free one two =
      let list = linked.0 in
      let place = linked.1 in
      let is_at : IsAt all list place at = linked.2 in
      let before = prev_link a (Node at) in
      let was : next_link a before ≡ Node at =
      next-prev (next_link a) (prev_link a) (Sentinel list) (nodes_of all list) list place at (ring_at a all sound list place at is_at) is_at
      in
      let none : next_link a (Node node) ≡ Unlinked = free_links a all node sound free in
      let other : Node at ≢ Node node = λ same. leads_from_at a all sound list place at is_at (ap (next_link a) same ∙ none) in
      let change = insertion before (Node at) node was (node_unlinked at) other none one two in
      let f = inserted_before at node in
      record {
        node_count = same_nodes;
        list_count = length-map all.lists f ∙ same_lists;
        rings = λ l below.
            rw (get_or-map_lists f refl all.lists l) (
            IsChain_inserted
            (next_link a)
            (prev_link a)
            (next_link c)
            (prev_link c)
            node
            before
            at
            change
            (Sentinel l)
            (nodes_of all l)
            l
            (λ same. node_sentinel node l (sym same))
            refl
            (sound.rings l (omega (arith, length-map all.lists f)))
            );
        linked = λ n leads. elim (eqb_tells n node) [
          | inl (_, same) ↦
              let has : Has (f (nodes_of all list)) node = Has-inserted_before_node at node (nodes_of all list) (place, is_at) in
              (list, has.0, rw (get_or-map_lists f refl all.lists list, same) has.1)
          | inr (_, differ) ↦
              let was_linked = linked_before before (Node at) node (node_unlinked at) change n differ leads in
              let has : Has (f (nodes_of all was_linked.0)) n = Has-inserted_before at node (nodes_of all was_linked.0) n (was_linked.1, was_linked.2) in
              (was_linked.0, has.0, rw (get_or-map_lists f refl all.lists was_linked.0) has.1)
        ];
      }

  pub Represents_pushed : (list node : ℕ) → list < length all.lists → (IsLinked all node → ⊥) → Joins a b (prev_link a (Sentinel list)) (Node node) → Joins b c (Node node) (Sentinel list) → Represents c (with_list all list (nodes_of all list ++ node ∷ []))
  Represents_pushed list node in_range free one two =
      let before = prev_link a (Sentinel list) in
      let was : next_link a before ≡ Sentinel list = next-prev_end (next_link a) (prev_link a) (Sentinel list) (nodes_of all list) list (sound.rings list in_range) in
      let none : next_link a (Node node) ≡ Unlinked = free_links a all node sound free in
      let change = insertion before (Sentinel list) node was (sentinel_unlinked list) (λ same. node_sentinel node list (sym same)) none one two in
      let xs = nodes_of all list in
      let here = get_or-set_same all.lists list (xs ++ node ∷ []) [] in_range in
      record {
        node_count = same_nodes;
        list_count = length-set all.lists list (xs ++ node ∷ []) ∙ same_lists;
        rings = λ l below. elim (eqb_tells l list) [
          | inl (_, same) ↦ rw (same, here) (
              IsChain_pushed (next_link a) (prev_link a) (next_link c) (prev_link c) node before list change (Sentinel list) xs (λ is. node_sentinel node list (sym is)) refl (sound.rings list in_range)
              )
          | inr (_, differ) ↦ rw (get_or-set_other all.lists list l (xs ++ node ∷ []) [] differ) (
              IsChain_not_pushed
              (next_link a)
              (prev_link a)
              (next_link c)
              (prev_link c)
              node
              before
              list
              change
              (Sentinel l)
              (nodes_of all l)
              l
              differ
              (λ is. node_sentinel node l (sym is))
              (sound.rings l (omega (arith, length-set all.lists list (xs ++ node ∷ []))))
              )
        ];
        linked = λ n leads. elim (eqb_tells n node) [
          | inl (_, same) ↦
              let has : Has (xs ++ node ∷ []) node = Has-append_right xs (node ∷ []) node (0, refl) in
              (list, has.0, rw (here, same) has.1)
          | inr (_, differ) ↦
              let was_linked = linked_before before (Sentinel list) node (sentinel_unlinked list) change n differ leads in
              elim (eqb_tells was_linked.0 list) [
                | inl (_, same) ↦
                    let has : Has (xs ++ node ∷ []) n = Has-append_left xs (node ∷ []) n (was_linked.1, subst (λ (l : ℕ). IsAt all l was_linked.1 n) same was_linked.2) in
                    (list, has.0, rw here has.1)
                | inr (_, other) ↦ (was_linked.0, was_linked.1, rw (get_or-set_other all.lists list was_linked.0 (xs ++ node ∷ []) [] other) was_linked.2)
              ]
        ];
      }

  pub Represents_removed : (node : ℕ) → IsLinked all node → Joins a b (prev_link a (Node node)) (next_link a (Node node)) → Clears b c node → Represents c (changed (without node) all)
  Represents_removed node linked one two =
      let list = linked.0 in
      let place = linked.1 in
      let is_at : IsAt all list place node = linked.2 in
      let ring = ring_at a all sound list place node is_at in
      let was_before : next_link a (prev_link a (Node node)) ≡ Node node = next-prev (next_link a) (prev_link a) (Sentinel list) (nodes_of all list) list place node ring is_at in
      let was_after : prev_link a (next_link a (Node node)) ≡ Node node = prev-next (next_link a) (prev_link a) (Sentinel list) (nodes_of all list) list place node ring is_at in
      let prev_apart : prev_link a (Node node) ≢ Node node = prev_self (next_link a) (prev_link a) list (nodes_of all list) place node ring is_at in
      let next_apart : next_link a (Node node) ≢ Node node = λ same. prev_apart (ap (prev_link a) (sym same) ∙ was_after) in
      let change : IsRemoval (next_link a) (prev_link a) (next_link c) (prev_link c) node = record {
        was_before = was_before;
        was_after = was_after;
        forth = two.next_others (prev_link a (Node node)) prev_apart ∙ one.next_here;
        back = two.prev_others (next_link a (Node node)) next_apart ∙ one.prev_here;
        next_others = λ link not_before not_node. two.next_others link not_node ∙ one.next_others link not_before;
        prev_others = λ link not_after not_node. two.prev_others link not_node ∙ one.prev_others link not_after;
      } in
      let f = without node in
      record {
        node_count = same_nodes;
        list_count = length-map all.lists f ∙ same_lists;
        rings = λ l below.
            rw (get_or-map_lists f refl all.lists l) (
            IsChain_removed
            (next_link a)
            (prev_link a)
            (next_link c)
            (prev_link c)
            node
            change
            (Sentinel l)
            (nodes_of all l)
            l
            (λ same. node_sentinel node l (sym same))
            (sound.rings l (omega (arith, length-map all.lists f)))
            );
        linked = λ n leads.
            let other : n ≢ node = λ same. leads (ap (λ (m : ℕ). next_link c (Node m)) same ∙ two.next_here) in
            let was_linked : IsLinked all n = elim (leads_or_not (next_link a (Node n))) [
              | inr had ↦ sound.linked n had
              | inl none ↦ absurd (leads (
                  change.next_others
                  (Node n)
                  (λ same. node_unlinked node (sym was_before ∙ ap (next_link a) (sym same) ∙ none))
                  (λ same. other (same_node n node same))
                  ∙ none
                  ))
            ] in
            let has : Has (f (nodes_of all was_linked.0)) n = Has-without node (nodes_of all was_linked.0) n other (was_linked.1, was_linked.2) in
            (was_linked.0, has.0, rw (get_or-map_lists f refl all.lists was_linked.0) has.1);
      }

-- the target's ring, with the source's nodes behind its own
IsChain_spliced : (a d : Arena) (source target first : ℕ) (last end : Link) → IsSplice (next_link a) (prev_link a) (next_link d) (prev_link d) source target first last end → (xs ys : List ℕ) → IsChain (next_link a) (prev_link a) (Sentinel source) ys (Sentinel source) → IsChain (next_link a) (prev_link a) (Sentinel target) xs (Sentinel target) → IsChain (next_link d) (prev_link d) (Sentinel target) (xs ++ ys) (Sentinel target)
IsChain_spliced a d source target first last end change xs [] from_ring to_ring = absurd (node_sentinel first source (sym change.source_first ∙ from_ring.0))
IsChain_spliced a d source target first last end change xs (y ∷ ys) from_ring to_ring =
    let same : first ≡ y = same_node first y (sym change.source_first ∙ from_ring.0) in
    rw (← same) (
    IsChain_joined
    (next_link a)
    (prev_link a)
    (next_link d)
    (prev_link d)
    source
    target
    first
    last
    end
    change
    (Sentinel target)
    xs
    ys
    (λ is. change.differ (sym (same_sentinel target source is)))
    to_ring
    (rw same from_ring.2)
    )

-- nothing changes where an empty list goes behind another
pub with_list-spliced_nil : (all : NodeLists) (source target : ℕ) → nodes_of all source ≡ [] → with_list (with_list all target (nodes_of all target ++ nodes_of all source)) source [] ≡ all
with_list-spliced_nil all source target empty =
    let lists = all.lists in
    let xs = nodes_of all target in
    let nothing_behind : xs ++ nodes_of all source ≡ xs = ap (λ (ys : List ℕ). xs ++ ys) empty ∙ append-nil xs in
    let same : set (set lists target (xs ++ nodes_of all source)) source [] ≡ lists =
    ap (λ (ys : List ℕ). set (set lists target ys) source []) nothing_behind
    ∙ ap (λ (zs : List (List ℕ)). set zs source []) (set-get_or lists target [])
    ∙ ap (λ (ys : List ℕ). set lists source ys) (sym empty)
    ∙ set-get_or lists source []
    in
    ap (λ (zs : List (List ℕ)). let r : NodeLists = record all { lists = zs } in r) same

-- Three joins that put one list's nodes behind another's.
module _ (a b c d : Arena) (all : NodeLists) (sound : Represents a all) (counts_b : SameCounts a b) (counts_c : SameCounts b c) (counts_d : SameCounts c d) where
  pub Represents_spliced : (source target first : ℕ) → source < length all.lists → target < length all.lists → source ≢ target → next_link a (Sentinel source) ≡ Node first → Joins a b (prev_link a (Sentinel target)) (Node first) → Joins b c (prev_link a (Sentinel source)) (Sentinel target) → Joins c d (Sentinel source) (Sentinel source) → Represents d (with_list (with_list all target (nodes_of all target ++ nodes_of all source)) source [])
  Represents_spliced source target first source_in target_in differ leads one two three =
      let last = prev_link a (Sentinel source) in
      let end = prev_link a (Sentinel target) in
      let xs = nodes_of all target in
      let source_last : next_link a last ≡ Sentinel source = next-prev_end (next_link a) (prev_link a) (Sentinel source) (nodes_of all source) source (sound.rings source source_in) in
      let target_end : next_link a end ≡ Sentinel target = next-prev_end (next_link a) (prev_link a) (Sentinel target) xs target (sound.rings target target_in) in
      let end_apart : end ≢ Sentinel source = λ same. node_sentinel first target (sym leads ∙ ap (next_link a) (sym same) ∙ target_end) in
      let last_apart : last ≢ Sentinel source = λ same. node_sentinel first source (sym leads ∙ ap (next_link a) (sym same) ∙ source_last) in
      let ends_apart : end ≢ last = λ same. differ (same_sentinel source target (sym source_last ∙ ap (next_link a) (sym same) ∙ target_end)) in
      let first_source : prev_link a (Node first) ≡ Sentinel source =
      ap (prev_link a) (sym leads) ∙ prev-next_first (next_link a) (prev_link a) (Sentinel source) (nodes_of all source) source (sound.rings source source_in)
      in
      let change : IsSplice (next_link a) (prev_link a) (next_link d) (prev_link d) source target first last end = record {
        differ = differ;
        source_first = leads;
        first_source = first_source;
        source_last = source_last;
        last_source = refl;
        target_end = target_end;
        end_target = refl;
        from_end = three.next_others end end_apart ∙ two.next_others end ends_apart ∙ one.next_here;
        back_first = three.prev_others (Node first) (node_sentinel first source) ∙ two.prev_others (Node first) (node_sentinel first target) ∙ one.prev_here;
        from_last = three.next_others last last_apart ∙ two.next_here;
        back_target = three.prev_others (Sentinel target) (λ same. differ (sym (same_sentinel target source same))) ∙ two.prev_here;
        from_source = three.next_here;
        back_source = three.prev_here;
        next_others = λ link not_end not_last not_source. three.next_others link not_source ∙ two.next_others link not_last ∙ one.next_others link not_end;
        prev_others = λ link not_first not_target not_source. three.prev_others link not_source ∙ two.prev_others link not_target ∙ one.prev_others link not_first;
      } in
      let ys = nodes_of all source in
      let joined = set all.lists target (xs ++ ys) in
      let in_joined : source < length joined = omega (arith, length-set all.lists target (xs ++ ys)) in
      let at_source = get_or-set_same joined source [] [] in_joined in
      let at_target : get_or (set joined source []) target [] ≡ xs ++ ys =
      get_or-set_other joined source target [] [] (λ same. differ (sym same)) ∙ get_or-set_same all.lists target (xs ++ ys) [] target_in
      in
      let at_other : (l : ℕ) → l ≢ source → l ≢ target → get_or (set joined source []) l [] ≡ nodes_of all l =
      λ l not_source not_target. get_or-set_other joined source l [] [] not_source ∙ get_or-set_other all.lists target l (xs ++ ys) [] not_target
      in
      record {
        node_count = omega (arith, sound.node_count, counts_b.nodes, counts_c.nodes, counts_d.nodes);
        list_count = length-set joined source [] ∙ length-set all.lists target (xs ++ ys) ∙ sound.list_count ∙ sym counts_b.sentinels ∙ sym counts_c.sentinels ∙ sym counts_d.sentinels;
        rings = λ l below. elim (eqb_tells l source) [
          | inl (_, same) ↦ rw (same, at_source) (three.next_here, three.prev_here)
          | inr (_, not_source) ↦ elim (eqb_tells l target) [
            | inl (_, same) ↦ rw (same, at_target) (
                IsChain_spliced a d source target first last end change xs ys (sound.rings source source_in) (sound.rings target target_in)
                )
            | inr (_, not_target) ↦ rw (at_other l not_source not_target) (
                IsChain_not_spliced
                (next_link a)
                (prev_link a)
                (next_link d)
                (prev_link d)
                source
                target
                first
                last
                end
                change
                (Sentinel l)
                (nodes_of all l)
                l
                not_source
                not_target
                (λ same. not_source (same_sentinel l source same))
                (sound.rings l (omega (arith, length-set joined source [], length-set all.lists target (xs ++ ys))))
                )
          ]
        ];
        linked = λ n had.
            let was_linked : IsLinked all n = elim (leads_or_not (next_link a (Node n))) [
              | inr leads_on ↦ sound.linked n leads_on
              | inl none ↦ absurd (had (
                  change.next_others
                  (Node n)
                  (λ same. sentinel_unlinked target (sym target_end ∙ ap (next_link a) (sym same) ∙ none))
                  (λ same. sentinel_unlinked source (sym source_last ∙ ap (next_link a) (sym same) ∙ none))
                  (node_sentinel n source)
                  ∙ none
                  ))
            ] in
            elim (eqb_tells was_linked.0 source) [
              | inl (_, same) ↦
                  let has : Has (xs ++ ys) n = Has-append_right xs ys n (was_linked.1, subst (λ (l : ℕ). IsAt all l was_linked.1 n) same was_linked.2) in
                  (target, has.0, rw at_target has.1)
              | inr (_, not_source) ↦ elim (eqb_tells was_linked.0 target) [
                | inl (_, same) ↦
                    let has : Has (xs ++ ys) n = Has-append_left xs ys n (was_linked.1, subst (λ (l : ℕ). IsAt all l was_linked.1 n) same was_linked.2) in
                    (target, has.0, rw at_target has.1)
                | inr (_, not_target) ↦ (was_linked.0, was_linked.1, rw (at_other was_linked.0 not_source not_target) was_linked.2)
              ]
            ];
      }
