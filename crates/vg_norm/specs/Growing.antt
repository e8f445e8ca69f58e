-- A graph in normal form that grows.
use Rattle.std.specs.Prelude.{◌≡◌, ℕ, ◌<◌, List, length, Some, slice_get}
use Rattle.vg_isa.specs.declared.expr.Expr.{Expr, map-Expr, roll-Expr}
use Rattle.vg_isa.specs.declared.expr.Expr.TheOpen.{Expr-F}
use Rattle.vg_isa.specs.Typing.{width_of}
use Rattle.vg_graph.specs.declared.node.Node.{Node}
use Rattle.vg_graph.specs.Node.{IsIn, node_of, operands_in}
use Rattle.vg_graph.specs.Tree.{IsTree}
use Rattle.vg_graph.specs.Graph.{GraphValue, IsGraph}
use Rattle.vg_graph.specs.Alike.{Alike}
use Rattle.vg_norm.specs.declared.growing.Growing.{Growing}
use Rattle.vg_norm.specs.Normal.{HasWidth, IsIdle, IsInOrder, IsNormal}

-- the widths of the trees at the nodes
pub record AreWidths (g : GraphValue) (widths : List ℕ) : Type 0 where
  pub all : length widths ≡ length g.nodes
  pub each : (n w : ℕ) → slice_get widths n ≡ Some w → HasWidth g n w

-- a graph in normal form, with the widths of its nodes
pub record IsGrowing (growing : Growing) : Type 0 where
  pub graph : IsGraph growing.graph
  pub normal : IsNormal growing.graph
  pub widths : AreWidths growing.graph growing.widths.items

-- trees stand at the operands of a level
abbrev pub StandBelow : List Node → Expr-F ℕ → (ℕ → Expr) → Type 0
StandBelow nodes level tree = (k : ℕ) → IsIn (operands_in level) k → IsTree nodes k (tree k)

-- the tree of the node has this width
abbrev pub HasNodeWidth : GraphValue → Node → ℕ → Type 0
HasNodeWidth g node width =
    (level : Expr-F ℕ) (tree : ℕ → Expr) → node ≡ node_of level → StandBelow g.nodes level tree → width_of g.isa (roll-Expr (map-Expr ℕ Expr tree level)) ≡ width

-- the node is no cast that leaves its operand as it is, and no slice from bit 0
abbrev pub IsBareNode : GraphValue → Node → Type 0
IsBareNode g node = (x : Expr-F ℕ) → node ≡ node_of x → IsIdle g x → ⊥

-- the operands of the node stand in their order
abbrev pub IsOrderedNode : Node → Type 0
IsOrderedNode node = (x : Expr-F ℕ) → node ≡ node_of x → IsInOrder x

-- the tree of a node over nodes of one graph is alike to the tree at a node of another one
pub record StandsFor (g : GraphValue) (node : Node) (h : GraphValue) (n : ℕ) : Type 0 where
  pub within : n < length h.nodes
  pub alike :
      (level : Expr-F ℕ) (tree : ℕ → Expr) (f : Expr)
      → node ≡ node_of level
      → StandBelow g.nodes level tree
      → IsTree h.nodes n f
      → Alike g.isa (roll-Expr (map-Expr ℕ Expr tree level)) f
