-- The normal form of a graph.
use Rattle.std.specs.Prelude.{◌≡◌, ◌↔◌, ℕ, ◌≤◌, Option, Some, None, slice_get, IsTrue}
use Rattle.vg_isa.specs.declared.expr.Expr.{Expr}
use Rattle.vg_isa.specs.declared.expr.Expr.TheOpen.{Expr-F}
use Rattle.vg_isa.specs.Typing.{width_of}
use Rattle.vg_isa.specs.Value.{IsLawful, Reads}
use Rattle.vg_graph.specs.declared.root.Root.{Root}
use Rattle.vg_graph.specs.Node.{node_of}
use Rattle.vg_graph.specs.Tree.{IsTree}
use Rattle.vg_graph.specs.Graph.{GraphValue, IsShared, root_of}
use Rattle.vg_graph.specs.Alike.{Alike, commutes}
use Rattle.vg_graph.specs.Replaced.{HaveOneValue}

-- the tree at the node has this width
abbrev pub HasWidth : GraphValue → ℕ → ℕ → Type 0
HasWidth g n width = (e : Expr) → IsTree g.nodes n e → width_of g.isa e ≡ width

-- a cast to the width of its operand, or a slice from bit 0, which is a cast
abbrev pub IsIdle : GraphValue → Expr-F ℕ → Type 0
IsIdle g (Expr-F.Cast op width a) = HasWidth g a width
IsIdle g (Expr-F.Slice a high low) = low ≡ 0
IsIdle g _ = ⊥

-- The order of operands: those of an operator that commutes stand by their numbers, the lesser first.
abbrev pub IsInOrder : Expr-F ℕ → Type 0
IsInOrder (Expr-F.Binary op a b) = IsTrue (commutes op) → a ≤ b
IsInOrder _ = Unit {0}

-- A graph in normal form: equal nodes are one, no cast leaves its operand as it is, no slice stands for a cast, and
-- operands that may stand in either order stand in the order of operands.
pub record IsNormal (g : GraphValue) : Type 0 where
  pub shared : IsShared g
  pub bare : (n : ℕ) (x : Expr-F ℕ) → slice_get g.nodes n ≡ Some (node_of x) → IsIdle g x → ⊥
  pub ordered : (n : ℕ) (x : Expr-F ℕ) → slice_get g.nodes n ≡ Some (node_of x) → IsInOrder x

-- the trees at two nodes are equal up to the freedoms; or neither node is there
abbrev pub AreAlike : GraphValue → Option ℕ → GraphValue → Option ℕ → Type 0
AreAlike g (Some m) h (Some n) = (e f : Expr) → IsTree g.nodes m e → IsTree h.nodes n f → Alike g.isa e f
AreAlike g None h None = Unit {0}
AreAlike g (Some m) h None = ⊥
AreAlike g None h (Some n) = ⊥

-- each root's tree is the same up to the freedoms
abbrev pub HasSameTrees : GraphValue → GraphValue → Type 0
HasSameTrees old new = (r : Root) → AreAlike old (root_of old.roots r) new (root_of new.roots r)

-- each root keeps its value, for each word in each lawful state
abbrev pub KeepsValues : GraphValue → GraphValue → Type 0
KeepsValues old new =
    (r : Root) (m n word : ℕ) (s : Reads) → root_of old.roots r ≡ Some m → root_of new.roots r ≡ Some n → IsLawful old.isa s → HaveOneValue word s old m new n

-- two roots are one node exactly where their trees were alike
abbrev pub HasOneRoot : GraphValue → GraphValue → Type 0
HasOneRoot old new =
    (r q : Root) (m n : ℕ) (e f : Expr)
    → root_of old.roots r ≡ Some m
    → root_of old.roots q ≡ Some n
    → IsTree old.nodes m e
    → IsTree old.nodes n f
    → (Alike old.isa e f ↔ (root_of new.roots r ≡ root_of new.roots q))
