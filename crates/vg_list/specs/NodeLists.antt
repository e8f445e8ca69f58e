-- Disjoint lists of nodes, as plain data, and what the calls make of them.
use Rattle.std.specs.Prelude.{◌≡◌, ℕ, ◌==◌, if◌then◌else◌, List, [], ◌∷◌, Some, slice_get, slice_index_or}

-- how many nodes there are, and the nodes of each list in order
pub record NodeLists : Type 0 where
  pub nodes : ℕ
  pub lists : List (List ℕ)

-- the nodes of a list, in order
abbrev pub nodes_of : NodeLists → ℕ → List ℕ
nodes_of all list = slice_index_or all.lists list []

-- the node stands at this place of this list
abbrev pub IsAt : NodeLists → ℕ → ℕ → ℕ → Type 0
IsAt all list place node = slice_get (nodes_of all list) place ≡ Some node

-- the node is in a list
abbrev pub IsLinked : NodeLists → ℕ → Type 0
IsLinked all node = (list : ℕ) × (place : ℕ) × IsAt all list place node

-- each node stands at one place of one list at most
abbrev pub IsDisjoint : NodeLists → Type 0
IsDisjoint all =
    (node list place other_list other_place : ℕ) → IsAt all list place node → IsAt all other_list other_place node
    → (list ≡ other_list) × (place ≡ other_place)

-- the list with the node put before `at`, where `at` is in it
abbrev pub inserted_before : ℕ → ℕ → List ℕ → List ℕ
inserted_before at node [] = []
inserted_before at node (x ∷ xs) =
    if x == at then node ∷ x ∷ inserted_before at node xs else x ∷ inserted_before at node xs

-- the list without the node
abbrev pub without : ℕ → List ℕ → List ℕ
without node [] = []
without node (x ∷ xs) = if x == node then without node xs else x ∷ without node xs
