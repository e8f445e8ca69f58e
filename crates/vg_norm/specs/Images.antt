-- The images of the nodes of a graph in one in normal form.
use Rattle.std.specs.Prelude.{◌≡◌, ℕ, ◌<◌, ◌⊎◌, true, List, [], ◌∷◌, length, Option, Some, None, slice_get}
use Rattle.vg_isa.specs.declared.expr.Expr.{Expr}
use Rattle.vg_graph.specs.declared.node.Node.{Node}
use Rattle.vg_graph.specs.declared.roots.WriteRoots.{WriteRoots}
use Rattle.vg_graph.specs.declared.roots.NextRoots.{NextRoots}
use Rattle.vg_graph.specs.Node.{IsIn, args_of}
use Rattle.vg_graph.specs.Tree.{IsTree, IsOperand}
use Rattle.vg_graph.specs.Graph.{GraphValue}
use Rattle.vg_graph.specs.Building.{Extends}
use Rattle.vg_graph.specs.Alike.{Alike}
use Rattle.vg_norm.specs.declared.visit.Step.{Step}
use Rattle.vg_norm.specs.declared.visit.Step.TheVariants.{Wait, Ready}
use Rattle.vg_norm.specs.declared.visit.Visit.{Visit}
use Rattle.vg_norm.specs.Growing.{IsGrowing}

-- the trees at a node of a graph and at a node of another one are alike
pub record HasImage (g : GraphValue) (n : ℕ) (h : GraphValue) (j : ℕ) : Type 0 where
  pub within : j < length h.nodes
  pub alike : (e f : Expr) → IsTree g.nodes n e → IsTree h.nodes j f → Alike g.isa e f

-- the node has an image
abbrev pub IsDone : List (Option ℕ) → ℕ → Type 0
IsDone images n = (j : ℕ) × (slice_get images n ≡ Some (Some j))

-- a part of an instruction has an image; or there is no such part
abbrev pub HasImageAt : GraphValue → Option ℕ → GraphValue → Option ℕ → Type 0
HasImageAt g (Some n) h (Some j) = HasImage g n h j
HasImageAt g None h None = Unit {0}
HasImageAt g (Some n) h None = ⊥
HasImageAt g None h (Some j) = ⊥

pub record IsWriteImage (g : GraphValue) (w : WriteRoots) (h : GraphValue) (v : WriteRoots) : Type 0 where
  pub guard : HasImage g w.guard h v.guard
  pub at : HasImageAt g w.at h v.at
  pub value : HasImage g w.value h v.value

abbrev pub AreWriteImages : GraphValue → List WriteRoots → GraphValue → List WriteRoots → Type 0
AreWriteImages g [] h [] = Unit {0}
AreWriteImages g (w ∷ ws) h (v ∷ vs) = IsWriteImage g w h v × AreWriteImages g ws h vs
AreWriteImages g (w ∷ ws) h [] = ⊥
AreWriteImages g [] h (v ∷ vs) = ⊥

abbrev pub IsNextImage : GraphValue → Option NextRoots → GraphValue → Option NextRoots → Type 0
IsNextImage g None h None = Unit {0}
IsNextImage g (Some n) h (Some m) = HasImage g n.guard h m.guard × HasImage g n.value h m.value
IsNextImage g (Some n) h None = ⊥
IsNextImage g None h (Some m) = ⊥

-- the numbers are the images of the nodes, one by one
abbrev pub AreImages : List (Option ℕ) → List ℕ → List ℕ → Type 0
AreImages images [] [] = Unit {0}
AreImages images (k ∷ ks) (j ∷ js) = (slice_get images k ≡ Some (Some j)) × AreImages images ks js
AreImages images (k ∷ ks) [] = ⊥
AreImages images [] (j ∷ js) = ⊥

-- the node over the images of its operands
pub record IsOverImages (images : List (Option ℕ)) (node new : Node) : Type 0 where
  pub op : new.op ≡ node.op
  pub args : AreImages images (args_of node) (args_of new)

-- an operand that has no image yet; or the node over the images of its operands
abbrev pub IsStep : List (Option ℕ) → Node → Step → Type 0
IsStep images node (Wait k) = IsIn (args_of node) k × (slice_get images k ≡ Some None)
IsStep images node (Ready new) = IsOverImages images node new

-- images of nodes of a graph in a graph in normal form, on the way
pub record IsWalk (g : GraphValue) (visit : Visit) : Type 0 where
  pub growing : IsGrowing visit.fresh
  pub isa : visit.fresh.graph.isa ≡ g.isa
  pub images : length visit.images.items ≡ length g.nodes
  pub open_nodes : length visit.opened.items ≡ length g.nodes
  pub each : (k j : ℕ) → slice_get visit.images.items k ≡ Some (Some j) → HasImage g k visit.fresh.graph j

-- the same, where each node that was gone into has its image
pub record IsVisit (g : GraphValue) (visit : Visit) : Type 0 where
  pub growing : IsGrowing visit.fresh
  pub isa : visit.fresh.graph.isa ≡ g.isa
  pub images : length visit.images.items ≡ length g.nodes
  pub open_nodes : length visit.opened.items ≡ length g.nodes
  pub each : (k j : ℕ) → slice_get visit.images.items k ≡ Some (Some j) → HasImage g k visit.fresh.graph j
  pub settled : (k : ℕ) → slice_get visit.opened.items k ≡ Some true → IsDone visit.images.items k

-- the images of a visit that went on
pub record HasMoreImages (old new : Visit) : Type 0 where
  pub extends : Extends old.fresh.graph new.fresh.graph
  pub stay : (n : ℕ) → IsDone old.images.items n → IsDone new.images.items n

-- the node has its image; or an operand of it has none yet
abbrev pub IsAdvanced : GraphValue → ℕ → Visit → Option ℕ → Type 0
IsAdvanced g n new None = IsDone new.images.items n
IsAdvanced g n new (Some k) = IsOperand g.nodes k n × (slice_get new.images.items k ≡ Some None)

-- a node that was gone into has its image, or is on the way
abbrev pub IsUnderWay : Visit → List ℕ → Type 0
IsUnderWay visit stack = (k : ℕ) → slice_get visit.opened.items k ≡ Some true → IsDone visit.images.items k ⊎ IsIn stack k

-- the nodes are nodes of the graph
abbrev pub AreNodes : GraphValue → List ℕ → Type 0
AreNodes g ns = (n : ℕ) → IsIn ns n → n < length g.nodes

-- ---- parts that are nodes of the graph

abbrev pub IsPartWithin : GraphValue → Option ℕ → Type 0
IsPartWithin g None = Unit {0}
IsPartWithin g (Some n) = n < length g.nodes

pub record IsWriteWithin (g : GraphValue) (w : WriteRoots) : Type 0 where
  pub guard : w.guard < length g.nodes
  pub at : IsPartWithin g w.at
  pub value : w.value < length g.nodes

abbrev pub IsNextWithin : GraphValue → Option NextRoots → Type 0
IsNextWithin g None = Unit {0}
IsNextWithin g (Some n) = (n.guard < length g.nodes) × (n.value < length g.nodes)
