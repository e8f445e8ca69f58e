-- A graph over numbers: a list of the nodes that each node uses, at the number of that node.
use Rattle.std.specs.Prelude.{ℕ, ◌<◌, List, [], ◌∷◌, length, slice_index_or}
use Rattle.std.specs.List.{All, Contains}

-- the nodes that a node uses
abbrev pub uses_at : List (List ℕ) → ℕ → List ℕ
uses_at graph k = slice_index_or graph k []

-- each number stands for a node
abbrev pub IsClosed : List (List ℕ) → Type 0
IsClosed graph = All (λ (uses : List ℕ). All (λ (used : ℕ). used < length graph) uses) graph

-- one node uses another, directly or through others
pub data Leads (graph : List (List ℕ)) : ℕ → ℕ → Type 0 where
  directly : {i j : ℕ} → Contains (uses_at graph i) j → Leads graph i j
  through : {i j k : ℕ} → Contains (uses_at graph i) j → Leads graph j k → Leads graph i k

-- each node of a list stands in it once, behind all that it uses, where these nodes stand in front
abbrev pub IsBehind : List (List ℕ) → List ℕ → List ℕ → Type 0
IsBehind graph front [] = Unit {0}
IsBehind graph front (k ∷ ks) = (¬ Contains front k) × All (Contains front) (uses_at graph k) × IsBehind graph (k ∷ front) ks

-- all nodes, each once, behind all that it uses
pub record IsSorting (graph : List (List ℕ)) (order : List ℕ) : Type 0 where
  pub within : All (λ (k : ℕ). k < length graph) order
  pub behind : IsBehind graph [] order
  pub complete : (k : ℕ) → k < length graph → Contains order k

-- the first node that uses itself, directly or through others
pub record IsFirstCircular (graph : List (List ℕ)) (node : ℕ) : Type 0 where
  pub within : node < length graph
  pub circular : Leads graph node node
  pub first : (k : ℕ) → k < node → ¬ Leads graph k k
