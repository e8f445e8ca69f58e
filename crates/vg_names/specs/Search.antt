-- How far a search through a graph has come.
use Rattle.std.specs.Prelude.{◌≡◌, ◌≢◌, ℕ, ◌<◌, List, [], ◌∷◌, map, length, slice_index, slice_index_or, Bool, true, false, ◌⊎◌}
use Rattle.std.specs.List.{All, Contains}
use Rattle.vg_names.specs.declared.mark.Mark.{Mark}
use Rattle.vg_names.specs.declared.mark.Mark.TheVariants.{New, Open, Done}
use Rattle.vg_names.specs.declared.step.Step.{Step}
use Rattle.vg_names.specs.Graph.{uses_at, IsBehind}

abbrev pub mark_at : List Mark → ℕ → Mark
mark_at marks k = slice_index_or marks k New

abbrev pub is_new : Mark → Bool
is_new New = true
is_new _ = false

abbrev pub nodes_of : List Step → List ℕ
nodes_of steps = map (λ (step : Step). step.node) steps

-- no node is open, and those that are done are the order, each behind all that it uses
pub record IsSearched (graph : List (List ℕ)) (marks : List Mark) (order : List ℕ) : Type 0 where
  pub marked : length marks ≡ length graph
  pub within : All (λ (k : ℕ). k < length graph) order
  pub behind : IsBehind graph [] order
  pub done : (k : ℕ) → mark_at marks k ≡ Done → Contains order k
  pub listed : (k : ℕ) → Contains order k → mark_at marks k ≡ Done
  pub closed : (k : ℕ) → mark_at marks k ≢ Open

abbrev pub step_at : ℕ → ℕ → Step
step_at node passed = record { node = node; passed = passed }

-- all that stands in a list stands in another
abbrev pub Keeps : List ℕ → List ℕ → Type 0
Keeps old new = (k : ℕ) → Contains old k → Contains new k

-- the first uses of a node are done
pub record IsStep (graph : List (List ℕ)) (order : List ℕ) (step : Step) : Type 0 where
  pub within : step.node < length graph
  pub passed : (k : ℕ) → k < step.passed → Contains order (slice_index (uses_at graph step.node) k)

-- each node of a list uses the next, and none stands in it twice
abbrev pub UsesHead : List (List ℕ) → ℕ → List ℕ → Type 0
UsesHead graph k [] = Unit {0}
UsesHead graph k (j ∷ js) = Contains (uses_at graph k) j

abbrev pub IsChain : List (List ℕ) → List ℕ → Type 0
IsChain graph [] = Unit {0}
IsChain graph (k ∷ ks) = UsesHead graph k ks × (¬ Contains ks k) × IsChain graph ks

-- in the middle of the search from a root, where these steps are open
pub record IsSearching (graph : List (List ℕ)) (root : ℕ) (old : List ℕ) (marks : List Mark) (order : List ℕ) (open_steps : List Step) : Type 0 where
  pub marked : length marks ≡ length graph
  pub within : All (λ (k : ℕ). k < length graph) order
  pub behind : IsBehind graph [] order
  pub done : (k : ℕ) → mark_at marks k ≡ Done → Contains order k
  pub listed : (k : ℕ) → Contains order k → mark_at marks k ≡ Done
  pub opened : (k : ℕ) → mark_at marks k ≡ Open → Contains (nodes_of open_steps) k
  pub active : (k : ℕ) → Contains (nodes_of open_steps) k → mark_at marks k ≡ Open
  pub steps : All (IsStep graph order) open_steps
  pub chain : IsChain graph (nodes_of open_steps)
  pub rooted : Contains (nodes_of open_steps) root ⊎ Contains order root
  pub kept : Keeps old order

-- whether a node was seen
abbrev pub seen_at : List Bool → ℕ → Bool
seen_at seen k = slice_index_or seen k false

-- a node was seen, and isn't the one that is sought
abbrev pub IsPassed : List Bool → ℕ → ℕ → Type 0
IsPassed seen sought used = (seen_at seen used ≡ true) × (used ≢ sought)
