-- An edge that names another node, and all edges of a node that name another one.
use Rattle.std.proofs.Common.{◌≡◌, ◌≢◌, ℕ, suc, ◌+◌, ◌<◌, ◌≤◌, ◌⊎◌, inl, inr, List, [], ◌∷◌, ◌++◌, length, set, get_or, map, Option, Some, None, refl, sym, ap, ◌∙◌, subst, arith}
use Rattle.std.specs.Prelude.{slice_get}
use Rattle.std.specs.Option.{option_map, option_and_then}
use Rattle.std.proofs.Math.Seq.{map-set_same}
use Rattle.std.proofs.lemmas.Bool.Decides.{eqb_tells}
use Rattle.std.proofs.lemmas.List.{length-map, length-set, get_or-set_same, get_or-set_other}
use Rattle.std.proofs.lemmas.Option.{slice_get-map, slice_get_within, get_or_from_slice_get, slice_get-get_or, slice_get_read, same_Some}
use Rattle.vg_graph.specs.declared.operands.Operands.{Operands}
use Rattle.vg_graph.specs.declared.operands.Operands.TheVariants.{Zero, One, Two, Three}
use Rattle.vg_graph.specs.declared.node.Node.{Node}
use Rattle.vg_graph.specs.Node.{IsIn, args_of, numbers_of}
use Rattle.vg_graph.specs.Graph.{AreExact, edges_from, edges_of, operand_at, places_from, target_of, users_at}
use Rattle.vg_list.specs.NodeLists.{NodeLists}
use Rattle.vg_graph.specs.declared.store.Store.{Store}
use Rattle.vg_graph.specs.Table.{IsIndexed}
use Rattle.vg_graph.specs.Replaced.{moved_lists, renamed, renamed_node, renamed_operands}
use Rattle.vg_graph.specs.Store.{IsRetargeted, IsStore}
use Rattle.vg_graph.proofs.Gets.{gets-set_same, gets-set_other, In-append, In-append_left, In-append_right}
use Rattle.vg_graph.proofs.EdgeLemmas.{IsEdgeOf, edge_kept, edge_found, operand_is, target_is}
use Rattle.vg_graph.proofs.ExactLemmas.{target_of-edge}
use Rattle.vg_graph.proofs.ReplaceLemmas.{renamed_old, renamed_other}
use Rattle.vg_graph.proofs.Walking.{passed}

-- ---- edges depend on the numbers of operands alone

abbrev arity : Node → ℕ
arity node = length (args_of node)

places_from-length : (n k : ℕ) (xs ys : List ℕ) → length xs ≡ length ys → places_from n k xs ≡ places_from n k ys
places_from-length n k [] [] same = refl
places_from-length n k [] (y ∷ ys) same = absurd (omega arith)
places_from-length n k (x ∷ xs) [] same = absurd (omega arith)
places_from-length n k (x ∷ xs) (y ∷ ys) same = ap (λ (ps : List (ℕ × ℕ)). (n, k) ∷ ps) (places_from-length n (k + 1) xs ys (omega arith))

edges_from-arity : (n : ℕ) (xs ys : List Node) → map arity xs ≡ map arity ys → edges_from n xs ≡ edges_from n ys
edges_from-arity n [] [] same = refl
edges_from-arity n [] (y ∷ ys) same = absurd (let h : map arity [] ≡ map arity (y ∷ ys) = same in cc)
edges_from-arity n (x ∷ xs) [] same = absurd (let h : map arity (x ∷ xs) ≡ map arity [] = same in cc)
edges_from-arity n (x ∷ xs) (y ∷ ys) same =
    let first : arity x ≡ arity y = cc in
    let rest : map arity xs ≡ map arity ys = cc in
    ap (λ (ps : List (ℕ × ℕ)). ps ++ edges_from (n + 1) xs) (places_from-length n 0 (args_of x) (args_of y) first)
    ∙ ap (λ (es : List (ℕ × ℕ)). places_from n 0 (args_of y) ++ es) (edges_from-arity (n + 1) xs ys rest)

length-numbers_renamed : (old new : ℕ) (a : Operands) → length (numbers_of (renamed_operands old new a)) ≡ length (numbers_of a)
length-numbers_renamed old new Zero = refl
length-numbers_renamed old new (One a) = refl
length-numbers_renamed old new (Two a b) = refl
length-numbers_renamed old new (Three a b c) = refl

arity-renamed : (old new : ℕ) (nodes : List Node) → map arity (map (renamed_node old new) nodes) ≡ map arity nodes
arity-renamed old new [] = refl
arity-renamed old new (x ∷ nodes) = λ i. length-numbers_renamed old new x.args i ∷ arity-renamed old new nodes i

pub edges_of-renamed : (old new : ℕ) (nodes : List Node) → edges_of (map (renamed_node old new) nodes) ≡ edges_of nodes
edges_of-renamed old new nodes = edges_from-arity 0 (map (renamed_node old new) nodes) nodes (arity-renamed old new nodes)

-- ---- one edge

module _ (nodes : List Node) (next : List Node) (n k to : ℕ) (is : IsRetargeted nodes next n k to) where
  at_node : get_or nodes n is.node ≡ is.node
  at_node = get_or_from_slice_get nodes n is.node is.node is.stands

  pub edges_of-retargeted : edges_of next ≡ edges_of nodes
  edges_of-retargeted =
      let same : arity is.changed ≡ arity (get_or nodes n is.node) = ap (λ (xs : List ℕ). length xs) is.args ∙ length-set (args_of is.node) k to ∙ ap arity (sym at_node) in
      edges_from-arity 0 next nodes (ap (λ (ns : List Node). map arity ns) is.nodes ∙ map-set_same arity nodes n is.changed is.node same)

  within : n < length nodes
  within = slice_get_within nodes n is.node is.stands

  operand_there : operand_at next (n, k) ≡ Some to
  operand_there =
      ap (λ (ns : List Node). operand_at ns (n, k)) is.nodes
      ∙ operand_is (set nodes n is.changed) n k is.changed (gets-set_same nodes n is.changed within)
      ∙ ap (λ (xs : List ℕ). slice_get xs k) is.args
      ∙ gets-set_same (args_of is.node) k to is.below

  operand_other_node : (m j : ℕ) → m ≢ n → operand_at next (m, j) ≡ operand_at nodes (m, j)
  operand_other_node m j differ =
      ap (λ (ns : List Node). operand_at ns (m, j)) is.nodes
      ∙ ap (λ (o : Option Node). option_and_then (λ (x : Node). slice_get (args_of x) j) o) (gets-set_other nodes n m is.changed differ)

  operand_other_place : (j : ℕ) → j ≢ k → operand_at next (n, j) ≡ operand_at nodes (n, j)
  operand_other_place j differ =
      ap (λ (ns : List Node). operand_at ns (n, j)) is.nodes
      ∙ operand_is (set nodes n is.changed) n j is.changed (gets-set_same nodes n is.changed within)
      ∙ ap (λ (xs : List ℕ). slice_get xs j) is.args
      ∙ gets-set_other (args_of is.node) k j to differ
      ∙ sym (operand_is nodes n j is.node is.stands)

  -- an operand is the new one, at the place that was changed, or as it was
  operand_cases : (place : ℕ × ℕ) (t : ℕ) → operand_at next place ≡ Some t → ((place ≡ (n, k)) × (t ≡ to)) ⊎ (operand_at nodes place ≡ Some t)
  operand_cases place t at = elim (eqb_tells place.0 n) [
    | inl (_, same_node) ↦ elim (eqb_tells place.1 k) [
      | inl (_, same_place) ↦
          let here : place ≡ (n, k) = λ i. (same_node i, same_place i) in
          inl (here, same_Some t to (sym at ∙ ap (operand_at next) here ∙ operand_there))
      | inr (_, differ) ↦
          let here : place ≡ (n, place.1) = λ i. (same_node i, place.1) in
          inr (ap (operand_at nodes) here ∙ sym (operand_other_place place.1 differ) ∙ ap (operand_at next) (sym here) ∙ at)
    ]
    | inr (_, differ) ↦ inr (sym (operand_other_node place.0 place.1 differ) ∙ at)
  ]

  -- the edge that was changed names the new node, and each other one what it named
  pub target_there : (e : ℕ) → slice_get (edges_of nodes) e ≡ Some (n, k) → target_of next e ≡ Some to
  target_there e at = target_is next e (n, k) (subst (λ (es : List (ℕ × ℕ)). slice_get es e ≡ Some (n, k)) (sym edges_of-retargeted) at) ∙ operand_there

  pub target_cases : (e t : ℕ) → target_of next e ≡ Some t → (t ≡ to) ⊎ (target_of nodes e ≡ Some t)
  target_cases e t h =
      let found = target_of-edge next e t h in
      let at : slice_get (edges_of nodes) e ≡ Some found.0 = subst (λ (es : List (ℕ × ℕ)). slice_get es e ≡ Some found.0) edges_of-retargeted found.1 in
      elim (operand_cases found.0 t found.2) [
        | inl there ↦ inl there.1
        | inr same ↦ inr (target_is nodes e found.0 at ∙ same)
      ]

-- the same list of numbers, renamed, where one that is renamed to a number is that number
renamed_set : (old new : ℕ) (xs : List ℕ) (k t : ℕ) → slice_get xs k ≡ Some t → renamed old new t ≡ new → map (renamed old new) (set xs k new) ≡ map (renamed old new) xs
renamed_set old new xs k t at is =
    map-set_same (renamed old new) xs k new t (renamed_new old new ∙ sym is ∙ ap (renamed old new) (sym (get_or_from_slice_get xs k t t at)))
  where
    renamed_new : (old new : ℕ) → renamed old new new ≡ new
    renamed_new old new = elim (eqb_tells new old) [
      | inl (test, _) ↦ rw test refl
      | inr (test, _) ↦ rw test refl
    ]

numbers_renamed : (old new : ℕ) (a : Operands) → numbers_of (renamed_operands old new a) ≡ map (renamed old new) (numbers_of a)
numbers_renamed old new Zero = refl
numbers_renamed old new (One a) = refl
numbers_renamed old new (Two a b) = refl
numbers_renamed old new (Three a b c) = refl

operands_from : List ℕ → Operands
operands_from [] = Zero
operands_from (a ∷ []) = One a
operands_from (a ∷ b ∷ []) = Two a b
operands_from (a ∷ b ∷ c ∷ rest) = Three a b c

operands_from-numbers : (a : Operands) → operands_from (numbers_of a) ≡ a
unfolding operands_from
operands_from-numbers Zero = refl
operands_from-numbers (One a) = refl
operands_from-numbers (Two a b) = refl
operands_from-numbers (Three a b c) = refl

operands_same : (a b : Operands) → numbers_of a ≡ numbers_of b → a ≡ b
operands_same a b same = sym (operands_from-numbers a) ∙ ap operands_from same ∙ operands_from-numbers b

-- renamed, the nodes are the same before and after an edge is changed to the new node
pub renamed_retargeted : (nodes next : List Node) (n k old new t : ℕ) → IsRetargeted nodes next n k new → operand_at nodes (n, k) ≡ Some t → (t ≡ old) ⊎ (t ≡ new) → map (renamed_node old new) next ≡ map (renamed_node old new) nodes
renamed_retargeted nodes next n k old new t is at which =
    let named : slice_get (args_of is.node) k ≡ Some t = sym (operand_is nodes n k is.node is.stands) ∙ at in
    let one : renamed old new t ≡ new = elim which [ inl o ↦ ap (renamed old new) o ∙ renamed_old old new | inr same ↦ elim (eqb_tells t old) [ inl (_, o) ↦ ap (renamed old new) o ∙ renamed_old old new | inr (_, differ) ↦ renamed_other old new t differ ∙ same ] ] in
    let numbers : numbers_of (renamed_operands old new is.changed.args) ≡ numbers_of (renamed_operands old new is.node.args) =
    numbers_renamed old new is.changed.args ∙ ap (λ (xs : List ℕ). map (renamed old new) xs) is.args ∙ renamed_set old new (args_of is.node) k t named one ∙ sym (numbers_renamed old new is.node.args) in
    let args = operands_same (renamed_operands old new is.changed.args) (renamed_operands old new is.node.args) numbers in
    let same : renamed_node old new is.changed ≡ renamed_node old new (get_or nodes n is.node) =
    (λ i. record { op = is.op i; args = args i }) ∙ ap (renamed_node old new) (sym (get_or_from_slice_get nodes n is.node is.node is.stands)) in
    ap (λ (ns : List Node). map (renamed_node old new) ns) is.nodes ∙ map-set_same (renamed_node old new) nodes n is.changed is.node same

-- ---- all edges of a node

map_plain : (f : Node → Node) (nodes : List Node) → ((m : ℕ) (node : Node) → slice_get nodes m ≡ Some node → f node ≡ node) → map f nodes ≡ nodes
map_plain f [] each = refl
map_plain f (x ∷ nodes) each = λ i. each 0 x refl i ∷ map_plain f nodes (λ m node at. each (suc m) node at) i

numbers_plain : (f : ℕ → ℕ) (xs : List ℕ) → ((k t : ℕ) → slice_get xs k ≡ Some t → f t ≡ t) → map f xs ≡ xs
numbers_plain f [] each = refl
numbers_plain f (x ∷ xs) each = λ i. each 0 x refl i ∷ numbers_plain f xs (λ k t at. each (suc k) t at) i

-- where no edge names the old node, the nodes are as renamed
pub renamed_plain : (old new : ℕ) (nodes : List Node) → ((e : ℕ) → target_of nodes e ≡ Some old → ⊥) → map (renamed_node old new) nodes ≡ nodes
renamed_plain old new nodes none = map_plain (renamed_node old new) nodes (λ m node at.
    let numbers : numbers_of (renamed_operands old new node.args) ≡ numbers_of node.args =
    numbers_renamed old new node.args ∙ numbers_plain (renamed old new) (args_of node) (λ k t is. renamed_other old new t (λ same.
    let below = slice_get_within (args_of node) k t is in
    let edge = edge_found nodes m k node at below in
    none edge.0 (target_is nodes edge.0 (m, k) edge.1 ∙ operand_is nodes m k node at ∙ is ∙ ap Some same))) in
    λ i. record { op = node.op; args = operands_same (renamed_operands old new node.args) node.args numbers i })

operand_renamed : (old new : ℕ) (nodes : List Node) (place : ℕ × ℕ) → operand_at (map (renamed_node old new) nodes) place ≡ option_map (renamed old new) (operand_at nodes place)
operand_renamed old new nodes place =
    ap (λ (o : Option Node). option_and_then (λ (x : Node). slice_get (args_of x) place.1) o) (slice_get-map (renamed_node old new) nodes place.0)
    ∙ cases (slice_get nodes place.0)
  where
    cases : (o : Option Node) → option_and_then (λ (x : Node). slice_get (args_of x) place.1) (option_map (renamed_node old new) o) ≡ option_map (renamed old new) (option_and_then (λ (x : Node). slice_get (args_of x) place.1) o)
    cases None = refl
    cases (Some x) = ap (λ (xs : List ℕ). slice_get xs place.1) (numbers_renamed old new x.args) ∙ slice_get-map (renamed old new) (args_of x) place.1

pub target_renamed : (old new : ℕ) (nodes : List Node) (e : ℕ) → target_of (map (renamed_node old new) nodes) e ≡ option_map (renamed old new) (target_of nodes e)
target_renamed old new nodes e =
    ap (λ (es : List (ℕ × ℕ)). option_and_then (operand_at (map (renamed_node old new) nodes)) (slice_get es e)) (edges_of-renamed old new nodes)
    ∙ cases (slice_get (edges_of nodes) e)
  where
    cases : (o : Option (ℕ × ℕ)) → option_and_then (operand_at (map (renamed_node old new) nodes)) o ≡ option_map (renamed old new) (option_and_then (operand_at nodes) o)
    cases None = refl
    cases (Some place) = operand_renamed old new nodes place

option_mapped : (f : ℕ → ℕ) (o : Option ℕ) (n : ℕ) → option_map f o ≡ Some n → (t : ℕ) × (o ≡ Some t) × (f t ≡ n)
option_mapped f None n h = absurd (let g : option_map f None ≡ Some n = h in cc)
option_mapped f (Some t) n h = (t, refl, same_Some (f t) n h)

-- the lists are exact where the users of the old node are those of the new one
pub AreExact-moved : (old new : ℕ) (nodes : List Node) (users : List (List ℕ)) → old < length users → new < length users → old ≢ new → AreExact nodes users → AreExact (map (renamed_node old new) nodes) (set (set users new (users_at users new ++ users_at users old)) old [])
AreExact-moved old new nodes users old_in new_in differ exact n e =
    let both = users_at users new ++ users_at users old in
    let moved = set users new both in
    let all = set moved old [] in
    let at_old : users_at all old ≡ [] = get_or-set_same moved old [] [] (omega (arith, length-set users new both)) in
    let at_new : users_at all new ≡ both = get_or-set_other moved old new [] [] (λ is. differ (sym is)) ∙ get_or-set_same users new both [] new_in in
    let at_other : n ≢ old → n ≢ new → users_at all n ≡ users_at users n = λ not_old not_new. get_or-set_other moved old n [] [] not_old ∙ get_or-set_other users new n both [] not_new in (
      λ has. target_renamed old new nodes e ∙ elim (eqb_tells n old) [
        | inl (_, is) ↦ absurd (nothing (subst (λ (xs : List ℕ). IsIn xs e) at_old (subst (λ (m : ℕ). IsIn (users_at all m) e) is has)))
        | inr (_, not_old) ↦ elim (eqb_tells n new) [
          | inl (_, is) ↦ ap (λ (o : Option ℕ). o) (elim (In-append (users_at users new) (users_at users old) e (subst (λ (xs : List ℕ). IsIn xs e) at_new (subst (λ (m : ℕ). IsIn (users_at all m) e) is has))) [
            | inl named ↦ ap (option_map (renamed old new)) ((exact new e).0 named) ∙ ap Some (renamed_other old new new (λ same. differ (sym same)) ∙ sym is)
            | inr named ↦ ap (option_map (renamed old new)) ((exact old e).0 named) ∙ ap Some (renamed_old old new ∙ sym is)
          ])
          | inr (_, not_new) ↦ ap (option_map (renamed old new)) ((exact n e).0 (subst (λ (xs : List ℕ). IsIn xs e) (at_other not_old not_new) has)) ∙ ap Some (renamed_other old new n not_old)
        ]
      ],
      λ is.
          let found = option_mapped (renamed old new) (target_of nodes e) n (sym (target_renamed old new nodes e) ∙ is) in
          elim (eqb_tells found.0 old) [
            | inl (_, o) ↦
                let here : new ≡ n = sym (renamed_old old new) ∙ ap (renamed old new) (sym o) ∙ found.2 in
                let named : IsIn (users_at users old) e = (exact old e).1 (found.1 ∙ ap Some o) in
                subst (λ (m : ℕ). IsIn (users_at all m) e) here (subst (λ (xs : List ℕ). IsIn xs e) (sym at_new) (In-append_right (users_at users new) (users_at users old) e named))
            | inr (_, not_old) ↦
                let same : found.0 ≡ n = sym (renamed_other old new found.0 not_old) ∙ found.2 in
                let named : IsIn (users_at users n) e = (exact n e).1 (found.1 ∙ ap Some same) in
                elim (eqb_tells n new) [
                  | inl (_, here) ↦ subst (λ (m : ℕ). IsIn (users_at all m) e) (sym here) (subst (λ (xs : List ℕ). IsIn xs e) (sym at_new) (In-append_left (users_at users new) (users_at users old) e (subst (λ (m : ℕ). IsIn (users_at users m) e) here named)))
                  | inr (_, not_new) ↦ subst (λ (xs : List ℕ). IsIn xs e) (sym (at_other (λ o. not_old (same ∙ o)) not_new)) named
                ]
          ],
    )
  where
    nothing : IsIn {X = ℕ} [] e → ⊥
    nothing has = let at : slice_get {X = ℕ} [] has.0 ≡ Some e = has.1 in cc

-- the place of an edge, and the node there
pub edge_at : (nodes : List Node) (edges : List (ℕ × ℕ)) (e : ℕ) (place : ℕ × ℕ) → edges ≡ edges_of nodes → e < length edges → place ≡ get_or edges e place → (slice_get edges e ≡ Some place) × IsEdgeOf nodes place
edge_at nodes edges e place is below read =
    let at : slice_get edges e ≡ Some place = slice_get_read edges (length edges) e place refl below read in
    (at, edge_kept nodes e place (subst (λ (es : List (ℕ × ℕ)). slice_get es e ≡ Some place) is at))

-- the operand at a place that was read
pub node_at : (nodes : List Node) (place : ℕ × ℕ) (node : Node) → IsEdgeOf nodes place → node ≡ get_or nodes place.0 node → (slice_get nodes place.0 ≡ Some node) × (place.1 < length (args_of node))
node_at nodes place node edge read =
    let within = slice_get_within nodes place.0 edge.node edge.stands in
    let at : slice_get nodes place.0 ≡ Some node = slice_get_read nodes (length nodes) place.0 node refl within read in
    (at, subst (λ (x : Node). place.1 < length (args_of x)) (same_Some edge.node node (sym edge.stands ∙ at)) edge.below)

-- ---- the walk over the users of a node

-- the edges that name the old node stand at this place or behind it
abbrev pub AreLeft : List Node → ℕ → List ℕ → ℕ → Type 0
AreLeft nodes old xs place = (e : ℕ) → target_of nodes e ≡ Some old → (j : ℕ) × (place ≤ j) × (slice_get xs j ≡ Some e)

-- each edge of the list names the old node or the new one
abbrev pub NameEither : List Node → ℕ → ℕ → List ℕ → Type 0
NameEither nodes old new xs = (e t : ℕ) → IsIn xs e → target_of nodes e ≡ Some t → (t ≡ old) ⊎ (t ≡ new)

pub AreLeft-first : (nodes : List Node) (users : List (List ℕ)) (old : ℕ) → AreExact nodes users → AreLeft nodes old (users_at users old) 0
AreLeft-first nodes users old exact e is = let has = (exact old e).1 is in (has.0, omega arith, has.1)

pub NameEither-first : (nodes : List Node) (users : List (List ℕ)) (old new : ℕ) → AreExact nodes users → NameEither nodes old new (users_at users old)
NameEither-first nodes users old new exact e t has is = inl (same_Some t old (sym is ∙ (exact old e).0 has))

module _ (nodes next : List Node) (n k old new : ℕ) (is : IsRetargeted nodes next n k new) (e0 place : ℕ) (xs : List ℕ) (edge : slice_get (edges_of nodes) e0 ≡ Some (n, k)) (at : slice_get xs place ≡ Some e0) where
  pub NameEither-on : NameEither nodes old new xs → NameEither next old new xs
  NameEither-on before e t has target = elim (target_cases nodes next n k new is e t target) [
    | inl same ↦ inr same
    | inr was ↦ before e t has was
  ]

  pub AreLeft-on : old ≢ new → AreLeft nodes old xs place → AreLeft next old xs (place + 1)
  AreLeft-on differ before e target = elim (target_cases nodes next n k new is e old target) [
    | inl same ↦ absurd (differ same)
    | inr was ↦
        let found = before e was in
        elim (eqb_tells found.0 place) [
          | inl (_, here) ↦
              let both : Some e ≡ Some e0 = sym found.2 ∙ ap (λ (j : ℕ). slice_get xs j) here ∙ at in
              let one : e ≡ e0 = same_Some e e0 both in
              absurd (differ (same_Some old new (sym target ∙ ap (target_of next) one ∙ target_there nodes next n k new is e0 edge)))
          | inr (_, apart) ↦ (found.0, (let low : place ≤ found.0 = found.1 in omega arith), found.2)
        ]
  ]

  -- renamed, the nodes stay
  pub renamed-on : NameEither nodes old new xs → map (renamed_node old new) next ≡ map (renamed_node old new) nodes
  renamed-on either =
      let target : target_of nodes e0 ≡ operand_at nodes (n, k) = target_is nodes e0 (n, k) edge in
      let operand = operand_is nodes n k is.node is.stands ∙ slice_get-get_or (args_of is.node) k 0 is.below in
      renamed_retargeted nodes next n k old new (get_or (args_of is.node) k 0) is operand (either e0 (get_or (args_of is.node) k 0) (place, at) (target ∙ operand))

-- at the end of the walk no edge names the old node
pub AreLeft-none : (nodes : List Node) (old : ℕ) (xs : List ℕ) (place : ℕ) → AreLeft nodes old xs place → None ≡ slice_get xs place → (e : ℕ) → target_of nodes e ≡ Some old → ⊥
AreLeft-none nodes old xs place left ends e is =
    let found = left e is in
    let before : found.0 < place = passed xs place found.0 e ends found.2 in
    let after : place ≤ found.0 = found.1 in
    absurd (omega arith)

-- the store in which the users of the old node use the new one
pub store_replaced :
    (s t : Store) (old new : ℕ)
    → IsStore s
    → old < length s.nodes.items
    → new < length s.nodes.items
    → old ≢ new
    → t.nodes.items ≡ map (renamed_node old new) s.nodes.items
    → t.edges.items ≡ s.edges.items
    → t.users ≡ record s.users { lists = moved_lists old new s.users.lists }
    → IsIndexed t.nodes.items t.table
    → IsStore t
store_replaced s t old new kept old_in new_in differ nodes edges users indexed =
    let both = users_at s.users.lists new ++ users_at s.users.lists old in
    let lists : t.users.lists ≡ moved_lists old new s.users.lists = ap (λ (u : NodeLists). u.lists) users in
    let old_list : old < length s.users.lists = omega (arith, kept.user_lists) in
    let new_list : new < length s.users.lists = omega (arith, kept.user_lists) in
    record {
      edges = edges ∙ kept.edges ∙ sym (edges_of-renamed old new s.nodes.items) ∙ ap edges_of (sym nodes);
      edge_count = ap (λ (u : NodeLists). u.nodes) users ∙ kept.edge_count ∙ ap (λ (es : List (ℕ × ℕ)). length es) (sym edges);
      user_lists =
          ap (λ (us : List (List ℕ)). length us) lists
          ∙ length-set (set s.users.lists new both) old [] ∙ length-set s.users.lists new both
          ∙ kept.user_lists ∙ sym (length-map s.nodes.items (renamed_node old new)) ∙ ap (λ (ns : List Node). length ns) (sym nodes);
      exact =
          subst (λ (ns : List Node). AreExact ns t.users.lists) (sym nodes)
          (subst (λ (us : List (List ℕ)). AreExact (map (renamed_node old new) s.nodes.items) us) (sym lists) (AreExact-moved old new s.nodes.items s.users.lists old_list new_list differ kept.exact));
      indexed = indexed;
    }
