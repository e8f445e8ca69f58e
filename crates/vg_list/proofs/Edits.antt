-- An insertion or a removal at its place: one list changes there, and the others stay.
use Rattle.std.proofs.Common.{◌≡◌, ◌≢◌, ℕ, zero, suc, ◌<◌, inl, inr, List, [], ◌∷◌, length, map, set, get_or, Some, sym, refl, ap, ◌∙◌, arith}
use Rattle.std.specs.Prelude.{slice_get, insert, remove}
use Rattle.std.proofs.lemmas.Bool.Decides.{eqb_tells}
use Rattle.std.proofs.lemmas.List.{ext_get_or, length-map, length-set, get_or-set_same, get_or-set_other}
use Rattle.vg_list.specs.NodeLists.{NodeLists, nodes_of, IsAt, IsDisjoint, inserted_before, without}
use Rattle.vg_list.proofs.Places.{get_or-map_lists}
use Rattle.vg_list.proofs.Representation.{list_in_range}

-- nothing is put into a list without the node to stand before
pub inserted_before-absent : (at node : ℕ) (xs : List ℕ) → ((place : ℕ) → slice_get xs place ≡ Some at → ⊥) → inserted_before at node xs ≡ xs
inserted_before-absent at node [] nowhere = refl
inserted_before-absent at node (x ∷ xs) nowhere = elim (eqb_tells x at) [
  | inl (_, same) ↦ absurd (nowhere 0 (ap (λ (n : ℕ). Some n) same))
  | inr (test, _) ↦ rw test (ap (λ (ys : List ℕ). x ∷ ys) (inserted_before-absent at node xs (λ place is. nowhere (suc place) is)))
]

-- nothing is taken from a list without the node
pub without-absent : (node : ℕ) (xs : List ℕ) → ((place : ℕ) → slice_get xs place ≡ Some node → ⊥) → without node xs ≡ xs
without-absent node [] nowhere = refl
without-absent node (x ∷ xs) nowhere = elim (eqb_tells x node) [
  | inl (_, same) ↦ absurd (nowhere 0 (ap (λ (n : ℕ). Some n) same))
  | inr (test, _) ↦ rw test (ap (λ (ys : List ℕ). x ∷ ys) (without-absent node xs (λ place is. nowhere (suc place) is)))
]

zero-suc : (n : ℕ) → 0 ≡ suc n → ⊥
zero-suc n same = omega arith

-- the node goes to the place of the one that it is put before
inserted_before-place : (at node : ℕ) (xs : List ℕ) (place : ℕ) → slice_get xs place ≡ Some at → ((other : ℕ) → slice_get xs other ≡ Some at → place ≡ other) → inserted_before at node xs ≡ insert xs place node
inserted_before-place at node [] place is one = absurd cc
inserted_before-place at node (x ∷ xs) zero is one = elim (eqb_tells x at) [
  | inl (test, _) ↦ rw test (ap (λ (ys : List ℕ). node ∷ x ∷ ys) (inserted_before-absent at node xs (λ other same. zero-suc other (one (suc other) same))))
  | inr (_, differ) ↦ absurd (let same : x ≡ at = cc in differ same)
]
inserted_before-place at node (x ∷ xs) (suc place) is one = elim (eqb_tells x at) [
  | inl (_, same) ↦ absurd (zero-suc place (sym (one 0 (ap (λ (n : ℕ). Some n) same))))
  | inr (test, _) ↦ rw test (ap (λ (ys : List ℕ). x ∷ ys) (
      inserted_before-place at node xs place is (λ other same. let step : suc place ≡ suc other = one (suc other) same in omega arith)
      ))
]

-- the node goes from its place
without-place : (node : ℕ) (xs : List ℕ) (place : ℕ) → slice_get xs place ≡ Some node → ((other : ℕ) → slice_get xs other ≡ Some node → place ≡ other) → without node xs ≡ remove xs place
without-place node [] place is one = absurd cc
without-place node (x ∷ xs) zero is one = elim (eqb_tells x node) [
  | inl (test, _) ↦ rw test (without-absent node xs (λ other same. zero-suc other (one (suc other) same)))
  | inr (_, differ) ↦ absurd (let same : x ≡ node = cc in differ same)
]
without-place node (x ∷ xs) (suc place) is one = elim (eqb_tells x node) [
  | inl (_, same) ↦ absurd (zero-suc place (sym (one 0 (ap (λ (n : ℕ). Some n) same))))
  | inr (test, _) ↦ rw test (ap (λ (ys : List ℕ). x ∷ ys) (
      without-place node xs place is (λ other same. let step : suc place ≡ suc other = one (suc other) same in omega arith)
      ))
]

-- a change of each list that changes one
map-one_list : (f : List ℕ → List ℕ) → f [] ≡ [] → (lists : List (List ℕ)) (list : ℕ) (ys : List ℕ) → list < length lists → f (get_or lists list []) ≡ ys → ((other : ℕ) → other ≢ list → f (get_or lists other []) ≡ get_or lists other []) → map f lists ≡ set lists list ys
map-one_list f empty lists list ys below here others =
    ext_get_or [] (map f lists) (set lists list ys) (length-map lists f ∙ sym (length-set lists list ys)) (λ other _.
    get_or-map_lists f empty lists other
    ∙ elim (eqb_tells other list) [
      | inl (_, same) ↦ rw same (here ∙ sym (get_or-set_same lists list ys [] below))
      | inr (_, differ) ↦ others other differ ∙ sym (get_or-set_other lists list other ys [] differ)
    ]
    )

module _ (all : NodeLists) (disjoint : IsDisjoint all) (list place : ℕ) where
  -- putting a node before another one changes the list of that one, at its place
  pub map-inserted_before : (at node : ℕ) → IsAt all list place at → map (inserted_before at node) all.lists ≡ set all.lists list (insert (nodes_of all list) place node)
  map-inserted_before at node is_at =
      map-one_list
      (inserted_before at node)
      refl
      all.lists
      list
      (insert (nodes_of all list) place node)
      (list_in_range all list place at is_at)
      (inserted_before-place at node (nodes_of all list) place is_at (λ other is. (disjoint at list place list other is_at is).1))
      (λ other differ. inserted_before-absent at node (nodes_of all other) (λ where_ is. differ (sym (disjoint at list place other where_ is_at is).0)))

  -- taking a node out changes its list, at its place
  pub map-without : (node : ℕ) → IsAt all list place node → map (without node) all.lists ≡ set all.lists list (remove (nodes_of all list) place)
  map-without node is_at =
      map-one_list
      (without node)
      refl
      all.lists
      list
      (remove (nodes_of all list) place)
      (list_in_range all list place node is_at)
      (without-place node (nodes_of all list) place is_at (λ other is. (disjoint node list place list other is_at is).1))
      (λ other differ. without-absent node (nodes_of all other) (λ where_ is. differ (sym (disjoint node list place other where_ is_at is).0)))
