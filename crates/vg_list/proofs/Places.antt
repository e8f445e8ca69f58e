-- Places in lists of numbers, and where a change leaves what stood at one.
use Rattle.std.proofs.Common.{◌≡◌, ◌≢◌, ℕ, zero, suc, ◌<◌, ◌≤◌, inl, inr, Bool, true, false, eqb, List, [], ◌∷◌, ◌++◌, length, map, get_or, Some, sym, refl, ap, ◌∙◌, subst, arith}
use Rattle.std.specs.Prelude.{slice_get, ◌||◌}
use Rattle.std.specs.List.{IsDistinct, AllByRecursion, list_any}
use Rattle.std.proofs.lemmas.Bool.Decides.{eqb_tells}
use Rattle.std.proofs.lemmas.Map.Steps.{length-le_from_distinct_below}
use Rattle.vg_list.specs.NodeLists.{inserted_before, without}

-- the number stands somewhere in the list
abbrev pub Has : List ℕ → ℕ → Type 0
Has xs n = (place : ℕ) × (slice_get xs place ≡ Some n)

there : (x : ℕ) (xs : List ℕ) (n : ℕ) → Has xs n → Has (x ∷ xs) n
there x xs n at = (suc at.0, at.1)

-- what stood in the list still does, after a node is put before another
pub Has-inserted_before : (at node : ℕ) (xs : List ℕ) (n : ℕ) → Has xs n → Has (inserted_before at node xs) n
Has-inserted_before at node [] n (place, is) = absurd cc
Has-inserted_before at node (x ∷ xs) n (zero, is) = elim (eqb_tells x at) [
  | inl (test, _) ↦ rw test (1, is)
  | inr (test, _) ↦ rw test (0, is)
]
Has-inserted_before at node (x ∷ xs) n (suc place, is) =
    let rest = Has-inserted_before at node xs n (place, is) in
    elim (eqb_tells x at) [
      | inl (test, _) ↦ rw test (there node (x ∷ inserted_before at node xs) n (there x (inserted_before at node xs) n rest))
      | inr (test, _) ↦ rw test (there x (inserted_before at node xs) n rest)
    ]

-- the node that is put before another one stands in the list then
pub Has-inserted_before_node : (at node : ℕ) (xs : List ℕ) → Has xs at → Has (inserted_before at node xs) node
Has-inserted_before_node at node [] (place, is) = absurd cc
Has-inserted_before_node at node (x ∷ xs) (zero, is) = elim (eqb_tells x at) [
  | inl (test, _) ↦ rw test (0, refl)
  | inr (_, differ) ↦ absurd (let same : x ≡ at = cc in differ same)
]
Has-inserted_before_node at node (x ∷ xs) (suc place, is) =
    let rest = Has-inserted_before_node at node xs (place, is) in
    elim (eqb_tells x at) [
      | inl (test, _) ↦ rw test (0, refl)
      | inr (test, _) ↦ rw test (there x (inserted_before at node xs) node rest)
    ]

-- another node stays when one is taken out
pub Has-without : (node : ℕ) (xs : List ℕ) (n : ℕ) → n ≢ node → Has xs n → Has (without node xs) n
Has-without node [] n other (place, is) = absurd cc
Has-without node (x ∷ xs) n other (zero, is) = elim (eqb_tells x node) [
  | inl (_, same) ↦ absurd (let mine : x ≡ n = cc in other (sym mine ∙ same))
  | inr (test, _) ↦ rw test (0, is)
]
Has-without node (x ∷ xs) n other (suc place, is) =
    let rest = Has-without node xs n other (place, is) in
    elim (eqb_tells x node) [
      | inl (test, _) ↦ rw test rest
      | inr (test, _) ↦ rw test (there x (without node xs) n rest)
    ]

pub Has-append_left : (xs ys : List ℕ) (n : ℕ) → Has xs n → Has (xs ++ ys) n
Has-append_left [] ys n (place, is) = absurd cc
Has-append_left (x ∷ xs) ys n (zero, is) = (0, is)
Has-append_left (x ∷ xs) ys n (suc place, is) = there x (xs ++ ys) n (Has-append_left xs ys n (place, is))

pub Has-append_right : (xs ys : List ℕ) (n : ℕ) → Has ys n → Has (xs ++ ys) n
Has-append_right [] ys n at = at
Has-append_right (x ∷ xs) ys n at = there x (xs ++ ys) n (Has-append_right xs ys n at)

-- a list of a changed row of lists, where the change leaves an empty list empty
pub get_or-map_lists : (f : List ℕ → List ℕ) → f [] ≡ [] → (lists : List (List ℕ)) (list : ℕ) → get_or (map f lists) list [] ≡ f (get_or lists list [])
get_or-map_lists f empty [] list = sym empty
get_or-map_lists f empty (xs ∷ lists) zero = refl
get_or-map_lists f empty (xs ∷ lists) (suc list) = get_or-map_lists f empty lists list

-- a list in which each number stands at one place is no longer than the numbers' bound
absent : (x : ℕ) (xs : List ℕ) → ((place : ℕ) → slice_get xs place ≡ Some x → ⊥) → AllByRecursion (λ y. eqb x y ≡ false) xs
absent x [] nowhere = tt
absent x (y ∷ ys) nowhere = (
  elim (eqb_tells x y) [
    | inl (_, same) ↦ absurd (nowhere 0 (ap (λ (m : ℕ). Some m) (sym same)))
    | inr (test, _) ↦ test
  ],
  absent x ys (λ place is. nowhere (suc place) is),
)

distinct_from_places : (xs : List ℕ) → ((i j n : ℕ) → slice_get xs i ≡ Some n → slice_get xs j ≡ Some n → i ≡ j) → IsDistinct eqb xs
unfolding IsDistinct
distinct_from_places [] one = tt
distinct_from_places (x ∷ xs) one = (
  absent x xs (λ place is. absurd (let same : 0 ≡ suc place = one 0 (suc place) x refl is in omega arith)),
  distinct_from_places xs (λ i j n at at'. let same : suc i ≡ suc j = one (suc i) (suc j) n at at' in omega arith),
)

has_from_list_any : (q : ℕ) (xs : List ℕ) → list_any (eqb q) xs ≡ true → Has xs q
has_from_list_any q [] any = absurd cc
has_from_list_any q (x ∷ xs) any = elim (eqb_tells q x) [
  | inl (_, same) ↦ (0, ap (λ (m : ℕ). Some m) (sym same))
  | inr (test, _) ↦ there x xs q (has_from_list_any q xs (subst (λ (b : Bool). (b || list_any (eqb q) xs) ≡ true) test any))
]

pub length-le_from_places : (xs : List ℕ) (bound : ℕ) → ((i j n : ℕ) → slice_get xs i ≡ Some n → slice_get xs j ≡ Some n → i ≡ j) → ((place n : ℕ) → slice_get xs place ≡ Some n → n < bound) → length xs ≤ bound
length-le_from_places xs bound one below =
    length-le_from_distinct_below xs bound (distinct_from_places xs one) (λ q any. let has = has_from_list_any q xs any in below has.0 q has.1)
