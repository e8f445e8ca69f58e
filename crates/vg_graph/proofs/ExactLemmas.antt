-- The edges of each list are those that name its node, after a node is added too.
use Rattle.std.proofs.Common.{◌≡◌, ℕ, zero, suc, ◌+◌, ◌<◌, ◌⊎◌, inl, inr, List, [], ◌∷◌, ◌++◌, length, set, get_or, Option, Some, None, sym, refl, ap, ◌∙◌, subst, arith}
use Rattle.std.specs.Prelude.{slice_get, ◌↔◌}
use Rattle.std.specs.Option.{option_and_then}
use Rattle.std.proofs.lemmas.Bool.Decides.{eqb_tells}
use Rattle.std.proofs.lemmas.Option.{slice_get_within}
use Rattle.std.proofs.lemmas.List.{length-append, length-set, get_or-set_same, get_or-set_other}
use Rattle.vg_graph.specs.declared.node.Node.{Node}
use Rattle.vg_graph.specs.Node.{IsIn, AllBelow, args_of}
use Rattle.vg_graph.specs.Graph.{places_of, edges_of, operand_at, target_of, users_at, with_users, AreExact}
use Rattle.vg_graph.proofs.Gets.{gets-append_left, gets-append_right, gets-append, gets-end, In-append_left, In-append_right, In-append, In-one, one-In}
use Rattle.vg_graph.proofs.EdgeLemmas.{IsEdgeOf, edges_of-more, edge_kept, operand_is, target_is, gets-places, places-gets}

-- ---- lists of users

abbrev none : List ℕ
none = []

nothing : (n : ℕ) → get_or {A = List ℕ} [] n none ≡ none
nothing n = refl

-- a list more, which is empty
pub users_at-more : (users : List (List ℕ)) (n : ℕ) → users_at (users ++ none ∷ []) n ≡ users_at users n
users_at-more [] zero = refl
users_at-more [] (suc n) = refl
users_at-more (x ∷ users) zero = refl
users_at-more (x ∷ users) (suc n) = users_at-more users n

pub length-with_users : (users : List (List ℕ)) (e : ℕ) (ts : List ℕ) → length (with_users users e ts) ≡ length users
length-with_users users e [] = refl
length-with_users users e (t ∷ ts) = length-with_users (set users t (users_at users t ++ e ∷ [])) (e + 1) ts ∙ length-set users t (users_at users t ++ e ∷ [])

-- the edge that was put into a list is in it, and what was in a list stays
pushed-has : (users : List (List ℕ)) (e t n x : ℕ) → t < length users → IsIn (users_at (set users t (users_at users t ++ e ∷ [])) n) x ↔ (IsIn (users_at users n) x ⊎ ((x ≡ e) × (t ≡ n)))
pushed-has users e t n x below = elim (eqb_tells n t) [
  | inl (_, is) ↦
      let here : users_at (set users t (users_at users t ++ e ∷ [])) n ≡ users_at users n ++ e ∷ [] =
      ap (λ (m : ℕ). users_at (set users t (users_at users t ++ e ∷ [])) m) is ∙ get_or-set_same users t (users_at users t ++ e ∷ []) [] below ∙ ap (λ (m : ℕ). users_at users m ++ e ∷ []) (sym is) in (
        λ has. elim (In-append (users_at users n) (e ∷ []) x (subst (λ (ys : List ℕ). IsIn ys x) here has)) [
          | inl before ↦ inl before
          | inr one ↦ inr (sym (one-In e x one), sym is)
        ],
        λ has. subst (λ (ys : List ℕ). IsIn ys x) (sym here) (elim has [
          | inl before ↦ In-append_left (users_at users n) (e ∷ []) x before
          | inr new ↦ In-append_right (users_at users n) (e ∷ []) x (subst (λ (y : ℕ). IsIn (e ∷ []) y) (sym new.0) (In-one e))
        ]),
      )
  | inr (_, differ) ↦
      let here : users_at (set users t (users_at users t ++ e ∷ [])) n ≡ users_at users n = get_or-set_other users t n (users_at users t ++ e ∷ []) [] differ in (
        λ has. inl (subst (λ (ys : List ℕ). IsIn ys x) here has),
        λ has. elim has [
          | inl before ↦ subst (λ (ys : List ℕ). IsIn ys x) (sym here) before
          | inr new ↦ absurd (differ (sym new.1))
        ],
      )
]

-- one of these edges names the node
abbrev IsNew : ℕ → List ℕ → ℕ → ℕ → Type 0
IsNew e ts n x = (k : ℕ) × (x ≡ e + k) × (slice_get ts k ≡ Some n)

AllBelow-along : (m n : ℕ) (ts : List ℕ) → m ≡ n → AllBelow m ts → AllBelow n ts
AllBelow-along m n ts same all = subst (λ (b : ℕ). AllBelow b ts) same all

with_users-has : (users : List (List ℕ)) (e : ℕ) (ts : List ℕ) (n x : ℕ) → AllBelow (length users) ts → IsIn (users_at (with_users users e ts) n) x ↔ (IsIn (users_at users n) x ⊎ IsNew e ts n x)
with_users-has users e [] n x all = (λ has. inl has, λ has. elim has [ inl before ↦ before | inr new ↦ absurd (no new.0 new.2) ])
  where
    no : (k : ℕ) → slice_get {X = ℕ} [] k ≡ Some n → ⊥
    no k at = cc
with_users-has users e (t ∷ ts) n x all =
    let first = set users t (users_at users t ++ e ∷ []) in
    let same : length users ≡ length first = sym (length-set users t (users_at users t ++ e ∷ [])) in
    let rest = with_users-has first (e + 1) ts n x (AllBelow-along (length users) (length first) ts same all.1) in
    let one = pushed-has users e t n x all.0 in (
      λ has. elim (rest.0 has) [
        | inl before ↦ elim (one.0 before) [
          | inl old ↦ inl old
          | inr here ↦ inr (0, (let e_is : x ≡ e = here.0 in omega arith), ap Some here.1)
        ]
        | inr new ↦ inr (suc new.0, (let is : x ≡ e + 1 + new.0 = new.1 in omega arith), new.2)
      ],
      λ has. rest.1 (elim has [
        | inl old ↦ inl (one.1 (inl old))
        | inr new ↦ later new.0 new.1 new.2
      ]),
    )
  where
    first_list : List (List ℕ)
    first_list = set users t (users_at users t ++ e ∷ [])

    later : (k : ℕ) → x ≡ e + k → slice_get (t ∷ ts) k ≡ Some n → IsIn (users_at (set users t (users_at users t ++ e ∷ [])) n) x ⊎ IsNew (e + 1) ts n x
    later zero is at = inl ((pushed-has users e t n x all.0).1 (inr ((let e_is : x ≡ e = omega arith in e_is), same_number t n at)))
      where
        same_number : (a b : ℕ) → slice_get (a ∷ ts) 0 ≡ Some b → a ≡ b
        same_number a b h = cc
    later (suc k) is at = inr (k, omega arith, at)

-- ---- one node more

some_then : {A B : Type 0} (f : A → Option B) (o : Option A) (y : B) → option_and_then f o ≡ Some y → (x : A) × (o ≡ Some x) × (f x ≡ Some y)
some_then f None y h = absurd cc
some_then f (Some x) y h = (x, refl, h)

-- the edge of an operand names it
pub target_of-edge : (nodes : List Node) (e n : ℕ) → target_of nodes e ≡ Some n → (place : ℕ × ℕ) × (slice_get (edges_of nodes) e ≡ Some place) × (operand_at nodes place ≡ Some n)
target_of-edge nodes e n h = some_then (operand_at nodes) (slice_get (edges_of nodes) e) n h

old_operand : (nodes : List Node) (node : Node) (place : ℕ × ℕ) → IsEdgeOf nodes place → operand_at (nodes ++ node ∷ []) place ≡ operand_at nodes place
old_operand nodes node place edge =
    operand_is (nodes ++ node ∷ []) place.0 place.1 edge.node (gets-append_left nodes (node ∷ []) place.0 edge.node edge.stands)
    ∙ sym (operand_is nodes place.0 place.1 edge.node edge.stands)

-- the edges with one node more
pub target_of-more : (nodes : List Node) (node : Node) (e n : ℕ) → (target_of (nodes ++ node ∷ []) e ≡ Some n) ↔ ((target_of nodes e ≡ Some n) ⊎ IsNew (length (edges_of nodes)) (args_of node) n e)
target_of-more nodes node e n = (
  λ h.
      let found = target_of-edge (nodes ++ node ∷ []) e n h in
      let place = found.0 in
      elim (gets-append (edges_of nodes) (places_of (length nodes) node) e place (subst (λ (es : List (ℕ × ℕ)). slice_get es e ≡ Some place) (edges_of-more nodes node) found.1)) [
        | inl old ↦ inl (target_is nodes e place old ∙ sym (old_operand nodes node place (edge_kept nodes e place old)) ∙ found.2)
        | inr new ↦
            let is = places-gets (length nodes) 0 (args_of node) new.0 place new.2 in
            let second : 0 + new.0 ≡ new.0 = omega arith in
            let operand : operand_at (nodes ++ node ∷ []) (length nodes, 0 + new.0) ≡ Some n = subst (λ (p : ℕ × ℕ). operand_at (nodes ++ node ∷ []) p ≡ Some n) is.is found.2 in
            inr (new.0, new.1, ap (λ (k : ℕ). slice_get (args_of node) k) (sym second) ∙ sym (operand_is (nodes ++ node ∷ []) (length nodes) (0 + new.0) node (gets-end nodes node)) ∙ operand)
      ],
  λ h. elim h [
    | inl old ↦
        let found = target_of-edge nodes e n old in
        let place = found.0 in
        let at : slice_get (edges_of (nodes ++ node ∷ [])) e ≡ Some place = rw (edges_of-more nodes node) (gets-append_left (edges_of nodes) (places_of (length nodes) node) e place found.1) in
        target_is (nodes ++ node ∷ []) e place at ∙ old_operand nodes node place (edge_kept nodes e place found.1) ∙ found.2
    | inr new ↦
        let k = new.0 in
        let below : k < length (args_of node) = slice_get_within (args_of node) k n new.2 in
        let at : slice_get (edges_of (nodes ++ node ∷ [])) (length (edges_of nodes) + k) ≡ Some (length nodes, 0 + k) =
        rw (edges_of-more nodes node) (gets-append_right (edges_of nodes) (places_of (length nodes) node) k (length nodes, 0 + k) (gets-places (length nodes) 0 (args_of node) k below)) in
        let second : 0 + k ≡ k = omega arith in
        ap (λ (i : ℕ). target_of (nodes ++ node ∷ []) i) new.1
        ∙ target_is (nodes ++ node ∷ []) (length (edges_of nodes) + k) (length nodes, 0 + k) at
        ∙ operand_is (nodes ++ node ∷ []) (length nodes) (0 + k) node (gets-end nodes node)
        ∙ ap (λ (j : ℕ). slice_get (args_of node) j) second
        ∙ new.2
  ],
)

-- the lists are exact with one node more
pub AreExact-more : (nodes : List Node) (users : List (List ℕ)) (node : Node) → AreExact nodes users → AllBelow (length users + 1) (args_of node) → AreExact (nodes ++ node ∷ []) (with_users (users ++ [] ∷ []) (length (edges_of nodes)) (args_of node))
AreExact-more nodes users node exact all n e =
    let longer : length users + 1 ≡ length (users ++ none ∷ []) = sym (length-append users (none ∷ [])) in
    let has = with_users-has (users ++ none ∷ []) (length (edges_of nodes)) (args_of node) n e (AllBelow-along (length users + 1) (length (users ++ none ∷ [])) (args_of node) longer all) in
    let targets = target_of-more nodes node e n in (
      λ now. targets.1 (elim (has.0 now) [
        | inl old ↦ inl ((exact n e).0 (subst (λ (ys : List ℕ). IsIn ys e) (users_at-more users n) old))
        | inr new ↦ inr new
      ]),
      λ is. has.1 (elim (targets.0 is) [
        | inl old ↦ inl (subst (λ (ys : List ℕ). IsIn ys e) (sym (users_at-more users n)) ((exact n e).1 old))
        | inr new ↦ inr new
      ]),
    )
