-- Chains of links: what they say of their nodes, and what is left of them after a change of links.
use Rattle.std.proofs.Common.{◌≡◌, ◌≢◌, ℕ, zero, suc, ◌≤◌, inl, inr, List, [], ◌∷◌, ◌++◌, length, Some, sym, refl, ap, ◌∙◌, subst, arith}
use Rattle.std.specs.Prelude.{slice_get}
use Rattle.std.proofs.lemmas.Bool.Decides.{eqb_tells}
use Rattle.vg_list.specs.declared.link.Link.{Link}
use Rattle.vg_list.specs.declared.link.Link.TheVariants.{Node, Sentinel, Unlinked}
use Rattle.vg_list.specs.Link.{node_of}
use Rattle.vg_list.specs.NodeLists.{inserted_before, without}
use Rattle.vg_list.specs.Arena.{IsChain, nodes_from}

-- two nodes' links are equal where the nodes are
pub same_node : (m n : ℕ) → Node m ≡ Node n → m ≡ n
same_node m n same = cc

pub node_sentinel : (m l : ℕ) → Node m ≡ Sentinel l → ⊥
node_sentinel m l same = cc

pub node_unlinked : (m : ℕ) → Node m ≡ Unlinked → ⊥
node_unlinked m same = cc

pub sentinel_unlinked : (l : ℕ) → Sentinel l ≡ Unlinked → ⊥
sentinel_unlinked l same = cc

pub same_sentinel : (k l : ℕ) → Sentinel k ≡ Sentinel l → k ≡ l
same_sentinel k l same = cc

module _ (next prev : Link → Link) where
  -- a chain's first link leads somewhere
  pub IsChain_leads : (from : Link) (xs : List ℕ) (l : ℕ) → IsChain next prev from xs (Sentinel l) → next from ≢ Unlinked
  IsChain_leads from [] l chain = λ nowhere. sentinel_unlinked l (sym chain.0 ∙ nowhere)
  IsChain_leads from (x ∷ xs) l chain = λ nowhere. node_unlinked x (sym chain.0 ∙ nowhere)

  -- following the links gives the chain's nodes
  pub nodes_from-IsChain : (count : ℕ) (from : Link) (xs : List ℕ) (l : ℕ) → IsChain next prev from xs (Sentinel l) → length xs ≤ count → nodes_from count next (next from) ≡ xs
  nodes_from-IsChain zero from [] l chain room = refl
  nodes_from-IsChain zero from (x ∷ xs) l chain room = absurd (omega arith)
  nodes_from-IsChain (suc count) from [] l chain room = rw chain.0 refl
  nodes_from-IsChain (suc count) from (x ∷ xs) l chain room =
      rw chain.0 (ap (λ (ys : List ℕ). x ∷ ys) (nodes_from-IsChain count (Node x) xs l chain.2 (omega arith)))

  -- the link after a node of the chain leads to the next one, and at the end to the sentinel
  pub node_of-next : (from : Link) (xs : List ℕ) (l place n : ℕ) → IsChain next prev from xs (Sentinel l) → slice_get xs place ≡ Some n → node_of (next (Node n)) ≡ slice_get xs (suc place)
  node_of-next from [] l place n chain at = absurd cc
  node_of-next from (x ∷ []) l zero n chain at =
      let same : x ≡ n = cc in
      rw (← same) (ap node_of chain.2.0)
  node_of-next from (x ∷ y ∷ xs) l zero n chain at =
      let same : x ≡ n = cc in
      rw (← same) (ap node_of chain.2.0)
  node_of-next from (x ∷ xs) l (suc place) n chain at = node_of-next (Node x) xs l place n chain.2 at

  -- the first node of the chain
  pub node_of-first : (from : Link) (xs : List ℕ) (l : ℕ) → IsChain next prev from xs (Sentinel l) → node_of (next from) ≡ slice_get xs 0
  node_of-first from [] l chain = ap node_of chain.0
  node_of-first from (x ∷ xs) l chain = ap node_of chain.0

  -- a chain whose first link leads to no node is empty
  pub nil_from_first : (from : Link) (xs : List ℕ) (to : Link) → IsChain next prev from xs to → ((x : ℕ) → next from ≡ Node x → ⊥) → xs ≡ []
  nil_from_first from [] to chain none = refl
  nil_from_first from (x ∷ xs) to chain none = absurd (none x chain.0)

  -- a node of the chain is linked
  pub leads_from_place : (from : Link) (xs : List ℕ) (l place n : ℕ) → IsChain next prev from xs (Sentinel l) → slice_get xs place ≡ Some n → next (Node n) ≢ Unlinked
  leads_from_place from [] l place n chain at = absurd cc
  leads_from_place from (x ∷ xs) l zero n chain at =
      let same : x ≡ n = cc in
      rw (← same) (IsChain_leads (Node x) xs l chain.2)
  leads_from_place from (x ∷ xs) l (suc place) n chain at = leads_from_place (Node x) xs l place n chain.2 at

  -- the two neighbours of a node of the chain link back to it
  pub next-prev : (from : Link) (xs : List ℕ) (l place n : ℕ) → IsChain next prev from xs (Sentinel l) → slice_get xs place ≡ Some n → next (prev (Node n)) ≡ Node n
  next-prev from [] l place n chain at = absurd cc
  next-prev from (x ∷ xs) l zero n chain at =
      let same : x ≡ n = cc in
      rw (← same) (ap next chain.1 ∙ chain.0)
  next-prev from (x ∷ xs) l (suc place) n chain at = next-prev (Node x) xs l place n chain.2 at

  -- the link back to the chain's start
  pub prev-next_first : (from : Link) (xs : List ℕ) (l : ℕ) → IsChain next prev from xs (Sentinel l) → prev (next from) ≡ from
  prev-next_first from [] l chain = ap prev chain.0 ∙ chain.1
  prev-next_first from (x ∷ xs) l chain = ap prev chain.0 ∙ chain.1

  pub prev-next : (from : Link) (xs : List ℕ) (l place n : ℕ) → IsChain next prev from xs (Sentinel l) → slice_get xs place ≡ Some n → prev (next (Node n)) ≡ Node n
  prev-next from [] l place n chain at = absurd cc
  prev-next from (x ∷ xs) l zero n chain at =
      let same : x ≡ n = cc in
      rw (← same) (prev-next_first (Node x) xs l chain.2)
  prev-next from (x ∷ xs) l (suc place) n chain at = prev-next (Node x) xs l place n chain.2 at

  -- the sentinel and the chain's last link lead to each other
  pub next-prev_end : (from : Link) (xs : List ℕ) (l : ℕ) → IsChain next prev from xs (Sentinel l) → next (prev (Sentinel l)) ≡ Sentinel l
  next-prev_end from [] l chain = ap next chain.1 ∙ chain.0
  next-prev_end from (x ∷ xs) l chain = next-prev_end (Node x) xs l chain.2

  -- what stands before the first node, and before each later one
  prev_first : (from : Link) (xs : List ℕ) (l n : ℕ) → IsChain next prev from xs (Sentinel l) → slice_get xs 0 ≡ Some n → prev (Node n) ≡ from
  prev_first from [] l n chain at = absurd cc
  prev_first from (x ∷ xs) l n chain at =
      let same : x ≡ n = cc in
      rw (← same) chain.1

  prev_later : (from : Link) (xs : List ℕ) (l place n : ℕ) → IsChain next prev from xs (Sentinel l) → slice_get xs (suc place) ≡ Some n → (m : ℕ) × (slice_get xs place ≡ Some m) × (prev (Node n) ≡ Node m)
  prev_later from [] l place n chain at = absurd cc
  prev_later from (x ∷ xs) l zero n chain at = (x, refl, prev_first (Node x) xs l n chain.2 at)
  prev_later from (x ∷ xs) l (suc place) n chain at = prev_later (Node x) xs l place n chain.2 at

  -- a node stands at one place of one ring
  pub one_place : (k l i j n : ℕ) (xs ys : List ℕ) → IsChain next prev (Sentinel k) xs (Sentinel k) → IsChain next prev (Sentinel l) ys (Sentinel l) → slice_get xs i ≡ Some n → slice_get ys j ≡ Some n → (k ≡ l) × (i ≡ j)
  one_place k l zero zero n xs ys one two at at' =
      (same_sentinel k l (sym (prev_first (Sentinel k) xs k n one at) ∙ prev_first (Sentinel l) ys l n two at'), refl)
  one_place k l zero (suc j) n xs ys one two at at' =
      let later = prev_later (Sentinel l) ys l j n two at' in
      absurd (node_sentinel later.0 k (sym later.2 ∙ prev_first (Sentinel k) xs k n one at))
  one_place k l (suc i) zero n xs ys one two at at' =
      let later = prev_later (Sentinel k) xs k i n one at in
      absurd (node_sentinel later.0 l (sym later.2 ∙ prev_first (Sentinel l) ys l n two at'))
  one_place k l (suc i) (suc j) n xs ys one two at at' =
      let before = prev_later (Sentinel k) xs k i n one at in
      let before' = prev_later (Sentinel l) ys l j n two at' in
      let same : before'.0 ≡ before.0 = same_node before'.0 before.0 (sym before'.2 ∙ before.2) in
      let before_at : slice_get ys j ≡ Some before.0 = before'.1 ∙ ap (λ (m : ℕ). Some m) same in
      let rest = one_place k l i j before.0 xs ys one two before.1 before_at in
      (rest.0, ap suc rest.1)

  -- no node stands before itself
  pub prev_self : (l : ℕ) (xs : List ℕ) (place n : ℕ) → IsChain next prev (Sentinel l) xs (Sentinel l) → slice_get xs place ≡ Some n → prev (Node n) ≢ Node n
  prev_self l xs zero n chain at = λ same. node_sentinel n l (sym same ∙ prev_first (Sentinel l) xs l n chain at)
  prev_self l xs (suc place) n chain at = λ same.
      let before = prev_later (Sentinel l) xs l place n chain at in
      let is_n : before.0 ≡ n = same_node before.0 n (sym before.2 ∙ same) in
      let twice = one_place l l place (suc place) n xs xs chain chain (before.1 ∙ ap (λ (m : ℕ). Some m) is_n) at in
      absurd (let bad : place ≡ suc place = twice.1 in omega arith)

-- What a change leaves of a chain. The primed links are those after it.
module _ (next prev next' prev' : Link → Link) where
  -- the links that led somewhere are as before
  pub IsChain_kept : ((link : Link) → next link ≢ Unlinked → next' link ≡ next link) → ((link : Link) → prev link ≢ Unlinked → prev' link ≡ prev link) → (from : Link) (xs : List ℕ) (l : ℕ) → from ≢ Unlinked → IsChain next prev from xs (Sentinel l) → IsChain next' prev' from xs (Sentinel l)
  IsChain_kept forth back from [] l there chain =
      (forth from (IsChain_leads next prev from [] l chain) ∙ chain.0, back (Sentinel l) (λ nowhere. there (sym chain.1 ∙ nowhere)) ∙ chain.1)
  IsChain_kept forth back from (x ∷ xs) l there chain = (
    forth from (IsChain_leads next prev from (x ∷ xs) l chain) ∙ chain.0,
    back (Node x) (λ nowhere. there (sym chain.1 ∙ nowhere)) ∙ chain.1,
    IsChain_kept forth back (Node x) xs l (node_unlinked x) chain.2,
  )

  -- a node that was nowhere is put before a link
  pub record IsInsertion (before : Link) (node : ℕ) (after : Link) : Type 0 where
    pub was_before : next before ≡ after
    pub was_free : next (Node node) ≡ Unlinked
    pub from_before : next' before ≡ Node node
    pub to_after : next' (Node node) ≡ after
    pub next_others : (link : Link) → link ≢ before → link ≢ Node node → next' link ≡ next link
    pub back_before : prev' (Node node) ≡ before
    pub back_after : prev' after ≡ Node node
    pub prev_others : (link : Link) → link ≢ Node node → link ≢ after → prev' link ≡ prev link

  -- a node is taken out from between its neighbours
  pub record IsRemoval (node : ℕ) : Type 0 where
    pub was_before : next (prev (Node node)) ≡ Node node
    pub was_after : prev (next (Node node)) ≡ Node node
    pub forth : next' (prev (Node node)) ≡ next (Node node)
    pub back : prev' (next (Node node)) ≡ prev (Node node)
    pub next_others : (link : Link) → link ≢ prev (Node node) → link ≢ Node node → next' link ≡ next link
    pub prev_others : (link : Link) → link ≢ next (Node node) → link ≢ Node node → prev' link ≡ prev link

  -- the nodes behind one sentinel, from `first` to `last`, go between the last node and the sentinel of another list
  pub record IsSplice (source target first : ℕ) (last end : Link) : Type 0 where
    pub differ : source ≢ target
    pub source_first : next (Sentinel source) ≡ Node first
    pub first_source : prev (Node first) ≡ Sentinel source
    pub source_last : next last ≡ Sentinel source
    pub last_source : prev (Sentinel source) ≡ last
    pub target_end : next end ≡ Sentinel target
    pub end_target : prev (Sentinel target) ≡ end
    pub from_end : next' end ≡ Node first
    pub back_first : prev' (Node first) ≡ end
    pub from_last : next' last ≡ Sentinel target
    pub back_target : prev' (Sentinel target) ≡ last
    pub from_source : next' (Sentinel source) ≡ Sentinel source
    pub back_source : prev' (Sentinel source) ≡ Sentinel source
    pub next_others : (link : Link) → link ≢ end → link ≢ last → link ≢ Sentinel source → next' link ≡ next link
    pub prev_others : (link : Link) → link ≢ Node first → link ≢ Sentinel target → link ≢ Sentinel source → prev' link ≡ prev link

  module _ (node : ℕ) where
    -- a node that was nowhere isn't in the chain
    not_free : (x : ℕ) (xs : List ℕ) (l : ℕ) → next (Node node) ≡ Unlinked → IsChain next prev (Node x) xs (Sentinel l) → Node x ≢ Node node
    not_free x xs l free chain = λ same. IsChain_leads next prev (Node x) xs l chain (ap next same ∙ free)

    -- a chain with the node put before another one
    pub IsChain_inserted : (before : Link) (at : ℕ) → IsInsertion before node (Node at) → (from : Link) (xs : List ℕ) (l : ℕ) → from ≢ Node node → prev (Node at) ≡ before → IsChain next prev from xs (Sentinel l) → IsChain next' prev' from (inserted_before at node xs) (Sentinel l)
    IsChain_inserted before at change from [] l other back chain = (
      change.next_others from (λ same. node_sentinel at l (sym change.was_before ∙ ap next (sym same) ∙ chain.0)) other ∙ chain.0,
      change.prev_others (Sentinel l) (λ same. node_sentinel node l (sym same)) (λ same. node_sentinel at l (sym same)) ∙ chain.1,
    )
    IsChain_inserted before at change from (x ∷ xs) l other back chain =
        let fresh : Node x ≢ Node node = not_free x xs l change.was_free chain.2 in
        let rest = IsChain_inserted before at change (Node x) xs l fresh back chain.2 in
        elim (eqb_tells x at) [
          | inl (is, same) ↦
              let from_is : from ≡ before = sym chain.1 ∙ ap (λ (m : ℕ). prev (Node m)) same ∙ back in
              rw is (
                ap next' from_is ∙ change.from_before,
                change.back_before ∙ sym from_is,
                (change.to_after ∙ ap (λ (m : ℕ). Node m) (sym same), ap (λ (m : ℕ). prev' (Node m)) same ∙ change.back_after, rest),
              )
          | inr (isnt, differ) ↦ rw isnt (
            change.next_others from (λ same. differ (same_node x at (sym chain.0 ∙ ap next same ∙ change.was_before))) other ∙ chain.0,
            change.prev_others (Node x) fresh (λ same. differ (same_node x at same)) ∙ chain.1,
            rest,
          )
        ]

    -- a chain to the sentinel that the node is put before
    pub IsChain_pushed : (before : Link) (l : ℕ) → IsInsertion before node (Sentinel l) → (from : Link) (xs : List ℕ) → from ≢ Node node → prev (Sentinel l) ≡ before → IsChain next prev from xs (Sentinel l) → IsChain next' prev' from (xs ++ node ∷ []) (Sentinel l)
    IsChain_pushed before l change from [] other back chain =
        let from_is : from ≡ before = sym chain.1 ∙ back in
        (ap next' from_is ∙ change.from_before, change.back_before ∙ sym from_is, (change.to_after, change.back_after))
    IsChain_pushed before l change from (x ∷ xs) other back chain =
        let fresh : Node x ≢ Node node = not_free x xs l change.was_free chain.2 in (
          change.next_others from (λ same. node_sentinel x l (sym chain.0 ∙ ap next same ∙ change.was_before)) other ∙ chain.0,
          change.prev_others (Node x) fresh (node_sentinel x l) ∙ chain.1,
          IsChain_pushed before l change (Node x) xs fresh back chain.2,
        )

    -- a chain to another sentinel
    pub IsChain_not_pushed : (before : Link) (l : ℕ) → IsInsertion before node (Sentinel l) → (from : Link) (xs : List ℕ) (k : ℕ) → k ≢ l → from ≢ Node node → IsChain next prev from xs (Sentinel k) → IsChain next' prev' from xs (Sentinel k)
    IsChain_not_pushed before l change from [] k differ other chain = (
      change.next_others from (λ same. differ (same_sentinel k l (sym chain.0 ∙ ap next same ∙ change.was_before))) other ∙ chain.0,
      change.prev_others (Sentinel k) (λ same. node_sentinel node k (sym same)) (λ same. differ (same_sentinel k l same)) ∙ chain.1,
    )
    IsChain_not_pushed before l change from (x ∷ xs) k differ other chain =
        let fresh : Node x ≢ Node node = not_free x xs k change.was_free chain.2 in (
          change.next_others from (λ same. node_sentinel x l (sym chain.0 ∙ ap next same ∙ change.was_before)) other ∙ chain.0,
          change.prev_others (Node x) fresh (node_sentinel x l) ∙ chain.1,
          IsChain_not_pushed before l change (Node x) xs k differ fresh chain.2,
        )

    -- a chain without the node; the second part is the chain that went on from the node
    IsChain_removed_at : IsRemoval node → (xs : List ℕ) → ((from : Link) (l : ℕ) → from ≢ Node node → IsChain next prev from xs (Sentinel l) → IsChain next' prev' from (without node xs) (Sentinel l)) × ((from : Link) (l : ℕ) → from ≡ prev (Node node) → from ≢ Node node → IsChain next prev (Node node) xs (Sentinel l) → IsChain next' prev' from (without node xs) (Sentinel l))
    IsChain_removed_at change [] = (
      λ from l other chain. (
        change.next_others from (λ same. node_sentinel node l (sym change.was_before ∙ ap next (sym same) ∙ chain.0)) other ∙ chain.0,
        change.prev_others (Sentinel l) (λ same. other (sym chain.1 ∙ ap prev same ∙ change.was_after)) (λ same. node_sentinel node l (sym same)) ∙ chain.1,
      ),
      λ from l is other chain. (
        ap next' is ∙ change.forth ∙ chain.0,
        ap prev' (sym chain.0) ∙ change.back ∙ sym is,
      ),
    )
    IsChain_removed_at change (x ∷ xs) =
        let rest = IsChain_removed_at change xs in (
          λ from l other chain. elim (eqb_tells x node) [
            | inl (is, same) ↦ rw is (
                rest.1
                from
                l
                (sym chain.1 ∙ ap (λ (m : ℕ). prev (Node m)) same)
                other
                (subst (λ (m : ℕ). IsChain next prev (Node m) xs (Sentinel l)) same chain.2)
                )
            | inr (isnt, differ) ↦ rw isnt (
              change.next_others from (λ same. differ (same_node x node (sym chain.0 ∙ ap next same ∙ change.was_before))) other ∙ chain.0,
              change.prev_others (Node x) (λ same. other (sym chain.1 ∙ ap prev same ∙ change.was_after)) (λ same. differ (same_node x node same)) ∙ chain.1,
              rest.0 (Node x) l (λ same. differ (same_node x node same)) chain.2,
            )
          ],
          λ from l is other chain. elim (eqb_tells x node) [
            | inl (_, same) ↦ absurd (other (is ∙ ap (λ (m : ℕ). prev (Node m)) (sym same) ∙ chain.1))
            | inr (isnt, differ) ↦ rw isnt (
              ap next' is ∙ change.forth ∙ chain.0,
              ap prev' (sym chain.0) ∙ change.back ∙ sym is,
              rest.0 (Node x) l (λ same. differ (same_node x node same)) chain.2,
            )
          ],
        )

    pub IsChain_removed : IsRemoval node → (from : Link) (xs : List ℕ) (l : ℕ) → from ≢ Node node → IsChain next prev from xs (Sentinel l) → IsChain next' prev' from (without node xs) (Sentinel l)
    IsChain_removed change from xs l other chain = (IsChain_removed_at change xs).0 from l other chain

  module _ (source target first : ℕ) (last end : Link) (change : IsSplice source target first last end) where
    -- a link to a node of a chain, none that starts at the source's sentinel, stays
    node_kept : (from : Link) (x : ℕ) → from ≢ Sentinel source → next from ≡ Node x → prev (Node x) ≡ from → (next' from ≡ Node x) × (prev' (Node x) ≡ from)
    node_kept from x other forth back = (
      change.next_others
          from
          (λ same. node_sentinel x target (sym forth ∙ ap next same ∙ change.target_end))
          (λ same. node_sentinel x source (sym forth ∙ ap next same ∙ change.source_last))
          other
          ∙ forth,
      change.prev_others (Node x) (λ same. other (sym back ∙ ap prev same ∙ change.first_source)) (node_sentinel x target) (node_sentinel x source) ∙ back,
    )

    -- the source's chain behind its first node, which now ends at the target's sentinel
    IsChain_moved : (from : Link) (xs : List ℕ) → from ≢ Sentinel source → IsChain next prev from xs (Sentinel source) → IsChain next' prev' from xs (Sentinel target)
    IsChain_moved from [] other chain =
        let from_is : from ≡ last = sym chain.1 ∙ change.last_source in
        (ap next' from_is ∙ change.from_last, change.back_target ∙ sym from_is)
    IsChain_moved from (x ∷ xs) other chain =
        let kept = node_kept from x other chain.0 chain.1 in
        (kept.0, kept.1, IsChain_moved (Node x) xs (node_sentinel x source) chain.2)

    -- the target's chain, with the source's behind it
    pub IsChain_joined : (from : Link) (xs ys : List ℕ) → from ≢ Sentinel source → IsChain next prev from xs (Sentinel target) → IsChain next prev (Node first) ys (Sentinel source) → IsChain next' prev' from (xs ++ first ∷ ys) (Sentinel target)
    IsChain_joined from [] ys other chain moved =
        let from_is : from ≡ end = sym chain.1 ∙ change.end_target in
        (ap next' from_is ∙ change.from_end, change.back_first ∙ sym from_is, IsChain_moved (Node first) ys (node_sentinel first source) moved)
    IsChain_joined from (x ∷ xs) ys other chain moved =
        let kept = node_kept from x other chain.0 chain.1 in
        (kept.0, kept.1, IsChain_joined (Node x) xs ys (node_sentinel x source) chain.2 moved)

    -- a chain to a third sentinel
    pub IsChain_not_spliced : (from : Link) (xs : List ℕ) (k : ℕ) → k ≢ source → k ≢ target → from ≢ Sentinel source → IsChain next prev from xs (Sentinel k) → IsChain next' prev' from xs (Sentinel k)
    IsChain_not_spliced from [] k not_source not_target other chain = (
      change.next_others
          from
          (λ same. not_target (same_sentinel k target (sym chain.0 ∙ ap next same ∙ change.target_end)))
          (λ same. not_source (same_sentinel k source (sym chain.0 ∙ ap next same ∙ change.source_last)))
          other
          ∙ chain.0,
      change.prev_others
          (Sentinel k)
          (λ same. node_sentinel first k (sym same))
          (λ same. not_target (same_sentinel k target same))
          (λ same. not_source (same_sentinel k source same))
          ∙ chain.1,
    )
    IsChain_not_spliced from (x ∷ xs) k not_source not_target other chain =
        let kept = node_kept from x other chain.0 chain.1 in
        (kept.0, kept.1, IsChain_not_spliced (Node x) xs k not_source not_target (node_sentinel x source) chain.2)
