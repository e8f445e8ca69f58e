-- Which nodes are linked after a change, for callers that keep a fact on all nodes.
use Rattle.std.proofs.Common.{◌≡◌, ◌≢◌, ℕ, zero, suc, ◌<◌, ◌⊎◌, inl, inr, Bool, cond, List, [], ◌∷◌, ◌++◌, length, set, Some, sym, refl, ap, ◌∙◌, subst, arith}
use Rattle.std.specs.Prelude.{◌↔◌}
use Rattle.std.proofs.lemmas.Bool.Decides.{eqb_tells}
use Rattle.std.proofs.lemmas.List.{length-set, get_or-set_same, get_or-set_other}
use Rattle.vg_list.specs.NodeLists.{NodeLists, nodes_of, IsAt, IsLinked, inserted_before, without}
use Rattle.vg_list.proofs.Places.{Has, Has-inserted_before, Has-inserted_before_node, Has-without, Has-append_left, Has-append_right, get_or-map_lists}
use Rattle.vg_list.proofs.Changes.{changed, with_list}
use Rattle.vg_list.proofs.Growth.{grown, nodes_of-grown}

under_cons : (x node n : ℕ) (xs ys : List ℕ) → (Has xs n → Has ys n ⊎ (n ≡ node)) → Has (x ∷ xs) n → Has (x ∷ ys) n ⊎ (n ≡ node)
under_cons x node n xs ys rest (zero, is) = inl (0, is)
under_cons x node n xs ys rest (suc place, is) = elim (rest (place, is)) [ inl has ↦ inl (suc has.0, has.1) | inr same ↦ inr same ]

past_new : (node n : ℕ) (xs ys : List ℕ) → (Has xs n → Has ys n ⊎ (n ≡ node)) → Has (node ∷ xs) n → Has ys n ⊎ (n ≡ node)
past_new node n xs ys rest (zero, is) = inr (let same : n ≡ node = cc in same)
past_new node n xs ys rest (suc place, is) = rest (place, is)

-- what stands in a list after an insertion stood there before, or is the node put in
pub Has-from_inserted_before : (at node : ℕ) (xs : List ℕ) (n : ℕ) → Has (inserted_before at node xs) n → Has xs n ⊎ (n ≡ node)
Has-from_inserted_before at node [] n (place, is) = absurd cc
Has-from_inserted_before at node (x ∷ xs) n has =
    let ys = inserted_before at node xs in
    let rest = Has-from_inserted_before at node xs n in
    elim (eqb_tells x at) [
      | inl (test, _) ↦
          let split : Has (node ∷ x ∷ ys) n = subst (λ (b : Bool). Has (cond b (node ∷ x ∷ ys) (x ∷ ys)) n) test has in
          past_new node n (x ∷ ys) (x ∷ xs) (under_cons x node n ys xs rest) split
      | inr (test, _) ↦
          let split : Has (x ∷ ys) n = subst (λ (b : Bool). Has (cond b (node ∷ x ∷ ys) (x ∷ ys)) n) test has in
          under_cons x node n ys xs rest split
    ]

kept_cons : (x node n : ℕ) (xs ys : List ℕ) → x ≢ node → (Has xs n → Has ys n × (n ≢ node)) → Has (x ∷ xs) n → Has (x ∷ ys) n × (n ≢ node)
kept_cons x node n xs ys other rest (zero, is) = ((0, is), λ same. let mine : x ≡ n = cc in other (mine ∙ same))
kept_cons x node n xs ys other rest (suc place, is) =
    let has = rest (place, is) in
    ((suc has.0.0, has.0.1), has.1)

-- what stands in a list after a removal stood there before, and isn't the node taken out
pub Has-from_without : (node : ℕ) (xs : List ℕ) (n : ℕ) → Has (without node xs) n → Has xs n × (n ≢ node)
Has-from_without node [] n (place, is) = absurd cc
Has-from_without node (x ∷ xs) n has =
    let ys = without node xs in
    let rest = Has-from_without node xs n in
    elim (eqb_tells x node) [
      | inl (test, _) ↦
          let found = rest (subst (λ (b : Bool). Has (cond b ys (x ∷ ys)) n) test has) in
          ((suc found.0.0, found.0.1), found.1)
      | inr (test, differ) ↦ kept_cons x node n ys xs differ rest (subst (λ (b : Bool). Has (cond b ys (x ∷ ys)) n) test has)
    ]

pub Has-from_append : (xs ys : List ℕ) (n : ℕ) → Has (xs ++ ys) n → Has xs n ⊎ Has ys n
Has-from_append [] ys n has = inr has
Has-from_append (x ∷ xs) ys n (zero, is) = inl (0, is)
Has-from_append (x ∷ xs) ys n (suc place, is) = elim (Has-from_append xs ys n (place, is)) [ inl has ↦ inl (suc has.0, has.1) | inr has ↦ inr has ]

Has-one : (m n : ℕ) → Has (m ∷ []) n → n ≡ m
Has-one m n (zero, is) = let same : n ≡ m = cc in same
Has-one m n (suc place, is) = absurd cc

nothing_in_nil : (n : ℕ) → Has [] n → ⊥
nothing_in_nil n (place, is) = cc

-- a node is linked where a list of this number has it
linked_at : (all : NodeLists) (list n : ℕ) (xs : List ℕ) → nodes_of all list ≡ xs → Has xs n → IsLinked all n
linked_at all list n xs same has = (list, has.0, rw same has.1)

has_at : (all : NodeLists) (list place n : ℕ) (xs : List ℕ) → nodes_of all list ≡ xs → IsAt all list place n → Has xs n
has_at all list place n xs same at = (place, rw same at at)

module _ (all : NodeLists) (n : ℕ) where
  -- after `insert_before`
  pub IsLinked-inserted_before : (at node : ℕ) → IsLinked all at → IsLinked (changed (inserted_before at node) all) n ↔ (IsLinked all n ⊎ (n ≡ node))
  IsLinked-inserted_before at node linked =
      let f = inserted_before at node in
      let after = changed f all in
      let same : (list : ℕ) → nodes_of after list ≡ f (nodes_of all list) = get_or-map_lists f refl all.lists in (
        λ now. elim (Has-from_inserted_before at node (nodes_of all now.0) n (has_at after now.0 now.1 n (f (nodes_of all now.0)) (same now.0) now.2)) [
          | inl has ↦ inl (linked_at all now.0 n (nodes_of all now.0) refl has)
          | inr is ↦ inr is
        ],
        λ was. elim was [
          | inl before ↦ linked_at after before.0 n (f (nodes_of all before.0)) (same before.0) (Has-inserted_before at node (nodes_of all before.0) n (before.1, before.2))
          | inr is ↦
              let has = Has-inserted_before_node at node (nodes_of all linked.0) (linked.1, linked.2) in
              linked_at after linked.0 n (f (nodes_of all linked.0)) (same linked.0) (subst (λ (m : ℕ). Has (f (nodes_of all linked.0)) m) (sym is) has)
        ],
      )

  -- after `unlink`
  pub IsLinked-without : (node : ℕ) → IsLinked (changed (without node) all) n ↔ (IsLinked all n × (n ≢ node))
  IsLinked-without node =
      let f = without node in
      let after = changed f all in
      let same : (list : ℕ) → nodes_of after list ≡ f (nodes_of all list) = get_or-map_lists f refl all.lists in (
        λ now.
            let found = Has-from_without node (nodes_of all now.0) n (has_at after now.0 now.1 n (f (nodes_of all now.0)) (same now.0) now.2) in
            (linked_at all now.0 n (nodes_of all now.0) refl found.0, found.1),
        λ was. linked_at after was.0.0 n (f (nodes_of all was.0.0)) (same was.0.0) (Has-without node (nodes_of all was.0.0) n was.1 (was.0.1, was.0.2)),
      )

  -- after `push_back`
  pub IsLinked-pushed : (list node : ℕ) → list < length all.lists → IsLinked (with_list all list (nodes_of all list ++ node ∷ [])) n ↔ (IsLinked all n ⊎ (n ≡ node))
  IsLinked-pushed list node below =
      let xs = nodes_of all list in
      let ys = xs ++ node ∷ [] in
      let after = with_list all list ys in
      let here : nodes_of after list ≡ ys = get_or-set_same all.lists list ys [] below in
      let there : (other : ℕ) → other ≢ list → nodes_of after other ≡ nodes_of all other = λ other differ. get_or-set_other all.lists list other ys [] differ in (
        λ now. elim (eqb_tells now.0 list) [
          | inl (_, is) ↦ elim (Has-from_append xs (node ∷ []) n (has_at after list now.1 n ys here (subst (λ (l : ℕ). IsAt after l now.1 n) is now.2))) [
            | inl has ↦ inl (linked_at all list n xs refl has)
            | inr has ↦ inr (Has-one node n has)
          ]
          | inr (_, differ) ↦ inl (linked_at all now.0 n (nodes_of all now.0) refl (has_at after now.0 now.1 n (nodes_of all now.0) (there now.0 differ) now.2))
        ],
        λ was. elim was [
          | inl before ↦ elim (eqb_tells before.0 list) [
            | inl (_, is) ↦ linked_at after list n ys here (Has-append_left xs (node ∷ []) n (before.1, subst (λ (l : ℕ). IsAt all l before.1 n) is before.2))
            | inr (_, differ) ↦ linked_at after before.0 n (nodes_of all before.0) (there before.0 differ) (before.1, before.2)
          ]
          | inr is ↦ linked_at after list n ys here (Has-append_right xs (node ∷ []) n (0, ap (λ (m : ℕ). Some m) (sym is)))
        ],
      )

  -- after `splice`
  pub IsLinked-spliced : (source target : ℕ) → source < length all.lists → target < length all.lists → source ≢ target → IsLinked (with_list (with_list all target (nodes_of all target ++ nodes_of all source)) source []) n ↔ IsLinked all n
  IsLinked-spliced source target source_in target_in differ =
      let xs = nodes_of all target in
      let ys = nodes_of all source in
      let joined = set all.lists target (xs ++ ys) in
      let after = with_list (with_list all target (xs ++ ys)) source [] in
      let at_source : nodes_of after source ≡ [] = get_or-set_same joined source [] [] (omega (arith, length-set all.lists target (xs ++ ys))) in
      let at_target : nodes_of after target ≡ xs ++ ys = get_or-set_other joined source target [] [] (λ is. differ (sym is)) ∙ get_or-set_same all.lists target (xs ++ ys) [] target_in in
      let at_other : (l : ℕ) → l ≢ source → l ≢ target → nodes_of after l ≡ nodes_of all l =
      λ l not_source not_target. get_or-set_other joined source l [] [] not_source ∙ get_or-set_other all.lists target l (xs ++ ys) [] not_target
      in (
        λ now. elim (eqb_tells now.0 source) [
          | inl (_, is) ↦ absurd (nothing_in_nil n (has_at after source now.1 n [] at_source (subst (λ (l : ℕ). IsAt after l now.1 n) is now.2)))
          | inr (_, not_source) ↦ elim (eqb_tells now.0 target) [
            | inl (_, is) ↦ elim (Has-from_append xs ys n (has_at after target now.1 n (xs ++ ys) at_target (subst (λ (l : ℕ). IsAt after l now.1 n) is now.2))) [
              | inl has ↦ linked_at all target n xs refl has
              | inr has ↦ linked_at all source n ys refl has
            ]
            | inr (_, not_target) ↦ linked_at all now.0 n (nodes_of all now.0) refl (has_at after now.0 now.1 n (nodes_of all now.0) (at_other now.0 not_source not_target) now.2)
          ]
        ],
        λ was. elim (eqb_tells was.0 source) [
          | inl (_, is) ↦ linked_at after target n (xs ++ ys) at_target (Has-append_right xs ys n (was.1, subst (λ (l : ℕ). IsAt all l was.1 n) is was.2))
          | inr (_, not_source) ↦ elim (eqb_tells was.0 target) [
            | inl (_, is) ↦ linked_at after target n (xs ++ ys) at_target (Has-append_left xs ys n (was.1, subst (λ (l : ℕ). IsAt all l was.1 n) is was.2))
            | inr (_, not_target) ↦ linked_at after was.0 n (nodes_of all was.0) (at_other was.0 not_source not_target) (was.1, was.2)
          ]
        ],
      )

  -- after `grow`
  pub IsLinked-grown : (more_nodes more_lists : ℕ) → IsLinked (grown all more_nodes more_lists) n ↔ IsLinked all n
  IsLinked-grown more_nodes more_lists =
      let same = nodes_of-grown all more_nodes more_lists in (
        λ now. linked_at all now.0 n (nodes_of all now.0) refl (has_at (grown all more_nodes more_lists) now.0 now.1 n (nodes_of all now.0) (same now.0) now.2),
        λ was. linked_at (grown all more_nodes more_lists) was.0 n (nodes_of all was.0) (same was.0) (was.1, was.2),
      )
