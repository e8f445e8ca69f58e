-- A graph: nodes, the edges that name each of them, and the nodes that stand for the parts of an instruction.
use Rattle.std.specs.Prelude.{◌≡◌, ℕ, ◌+◌, ◌<◌, ◌↔◌, ◌⊎◌, List, [], ◌∷◌, ◌++◌, length, Option, Some, None, slice_get, slice_index_or, slice_set, IsTrue}
use Rattle.std.specs.Option.{option_and_then, option_map}
use Rattle.vg_isa.specs.declared.isa.Parts.{Parts}
use Rattle.vg_isa.specs.declared.expr.Expr.{Expr, map-Expr, roll-Expr}
use Rattle.vg_isa.specs.declared.expr.Expr.TheOpen.{Expr-F}
use Rattle.vg_isa.specs.Typing.{is_typed}
use Rattle.vg_isa.specs.declared.instr.Instr.{Instr}
use Rattle.vg_isa.specs.declared.instr.Write.{Write}
use Rattle.vg_graph.specs.declared.node.Node.{Node}
use Rattle.vg_graph.specs.declared.root.Root.{Root}
use Rattle.vg_graph.specs.declared.root.Root.TheVariants.{Guard, At, Value, NextGuard, NextValue}
use Rattle.vg_graph.specs.declared.roots.Roots.{Roots}
use Rattle.vg_graph.specs.declared.roots.WriteRoots.{WriteRoots}
use Rattle.vg_graph.specs.declared.roots.NextRoots.{NextRoots}
use Rattle.vg_graph.specs.Node.{AllBelow, IsIn, args_of, node_of, operands_in}
use Rattle.vg_graph.specs.Tree.{HaveTrees, IsTree}
use Rattle.vg_graph.specs.Walk.{IsOnce}

-- what contracts see of a graph
pub record GraphValue : Type 0 where
  -- the description of which the behaviour is
  pub isa : Parts
  pub nodes : List Node
  -- for each node the edges that name it
  pub users : List (List ℕ)
  pub roots : Roots

-- ---- parts of an instruction

-- the node that stands for a part
abbrev pub root_of : Roots → Root → Option ℕ
root_of roots (Guard k) = option_map (λ (w : WriteRoots). w.guard) (slice_get roots.writes k)
root_of roots (At k) = option_and_then (λ (w : WriteRoots). w.at) (slice_get roots.writes k)
root_of roots (Value k) = option_map (λ (w : WriteRoots). w.value) (slice_get roots.writes k)
root_of roots NextGuard = option_map (λ (n : NextRoots). n.guard) roots.next
root_of roots NextValue = option_map (λ (n : NextRoots). n.value) roots.next

-- the tree of a part; None where the instruction has no such part
abbrev pub tree_of : Instr → Root → Option Expr
tree_of instr (Guard k) = option_map (λ (w : Write). w.guard) (slice_get instr.writes k)
tree_of instr (At k) = option_and_then (λ (w : Write). w.at) (slice_get instr.writes k)
tree_of instr (Value k) = option_map (λ (w : Write). w.value) (slice_get instr.writes k)
tree_of instr NextGuard = option_map (λ (n : Expr × Expr). n.0) instr.next
tree_of instr NextValue = option_map (λ (n : Expr × Expr). n.1) instr.next

-- the tree stands at the node; or neither is there
abbrev pub StandsAt : List Node → Option ℕ → Option Expr → Type 0
StandsAt nodes (Some n) (Some e) = IsTree nodes n e
StandsAt nodes None None = Unit {0}
StandsAt nodes (Some n) None = ⊥
StandsAt nodes None (Some e) = ⊥

-- the trees at the roots are those of the instruction
abbrev pub IsGraphOf : Instr → GraphValue → Type 0
IsGraphOf instr g = (r : Root) → StandsAt g.nodes (root_of g.roots r) (tree_of instr r)

-- ---- edges

-- the places of operands of the node n, the first of which is the k-th
abbrev pub places_from : ℕ → ℕ → List ℕ → List (ℕ × ℕ)
places_from n k [] = []
places_from n k (a ∷ args) = (n, k) ∷ places_from n (k + 1) args

-- the places of the operands of a node: its number, and the place among its operands
abbrev pub places_of : ℕ → Node → List (ℕ × ℕ)
places_of n node = places_from n 0 (args_of node)

-- the places of all operands of these nodes, the first of which has the number n
abbrev pub edges_from : ℕ → List Node → List (ℕ × ℕ)
edges_from n [] = []
edges_from n (node ∷ nodes) = places_of n node ++ edges_from (n + 1) nodes

-- the edges: the places of all operands, node by node
abbrev pub edges_of : List Node → List (ℕ × ℕ)
edges_of nodes = edges_from 0 nodes

-- the operand at a place of a node
abbrev pub operand_at : List Node → ℕ × ℕ → Option ℕ
operand_at nodes place = option_and_then (λ (node : Node). slice_get (args_of node) place.1) (slice_get nodes place.0)

-- the node that an edge names
abbrev pub target_of : List Node → ℕ → Option ℕ
target_of nodes e = option_and_then (operand_at nodes) (slice_get (edges_of nodes) e)

-- the list of a node
abbrev pub users_at : List (List ℕ) → ℕ → List ℕ
users_at users n = slice_index_or users n []

-- the edges that name a node, as they are kept
abbrev pub users_of : GraphValue → ℕ → List ℕ
users_of g n = users_at g.users n

-- the edges of each list are those that name its node
abbrev pub AreExact : List Node → List (List ℕ) → Type 0
AreExact nodes users = (n e : ℕ) → IsIn (users_at users n) e ↔ (target_of nodes e ≡ Some n)

-- the edges kept for each node are those that name it, each once
pub record AreUsers (g : GraphValue) : Type 0 where
  pub exact : AreExact g.nodes g.users
  pub once : (n : ℕ) → IsOnce (users_of g n)

-- what each graph keeps
pub record IsGraph (g : GraphValue) : Type 0 where
  pub trees : HaveTrees g.isa g.nodes
  pub users : AreExact g.nodes g.users
  pub user_lists : length g.users ≡ length g.nodes
  pub roots : (r : Root) (n : ℕ) → root_of g.roots r ≡ Some n → n < length g.nodes

-- no two nodes have one operator and the same operands
abbrev pub IsShared : GraphValue → Type 0
IsShared g = (m n : ℕ) (node : Node) → slice_get g.nodes m ≡ Some node → slice_get g.nodes n ≡ Some node → m ≡ n

-- ---- adding a node

-- the node has as many operands as its operator takes, they are nodes of the graph, and have the widths that it needs
pub record IsFit (g : GraphValue) (node : Node) : Type 0 where
  pub level : Expr-F ℕ
  pub is : node ≡ node_of level
  pub within : AllBelow (length g.nodes) (args_of node)
  pub typed :
      (tree : ℕ → Expr)
      → ((k : ℕ) → IsIn (operands_in level) k → IsTree g.nodes k (tree k))
      → IsTrue (is_typed g.isa (roll-Expr (map-Expr ℕ Expr tree level)))

-- the edges from the number e on name these nodes, one after the other
abbrev pub with_users : List (List ℕ) → ℕ → List ℕ → List (List ℕ)
with_users users e [] = users
with_users users e (n ∷ ns) = with_users (slice_set users n (users_at users n ++ e ∷ [])) (e + 1) ns

-- the graph with one node more, which nothing uses
abbrev pub added : Node → GraphValue → GraphValue
added node g = record g {
  nodes = g.nodes ++ node ∷ [];
  users = with_users (g.users ++ [] ∷ []) (length (edges_of g.nodes)) (args_of node);
}

-- the node was there, and nothing changes
pub record IsThere (old new : GraphValue) (node : Node) (n : ℕ) : Type 0 where
  pub found : slice_get old.nodes n ≡ Some node
  pub same : new ≡ old

-- the node wasn't there, and is put behind the others
pub record IsNew (old new : GraphValue) (node : Node) (n : ℕ) : Type 0 where
  pub absent : (m : ℕ) → slice_get old.nodes m ≡ Some node → ⊥
  pub number : n ≡ length old.nodes
  pub graph : new ≡ added node old

-- the graph after a node was asked for
abbrev pub IsAdded : GraphValue → GraphValue → Node → ℕ → Type 0
IsAdded old new node n = IsThere old new node n ⊎ IsNew old new node n
