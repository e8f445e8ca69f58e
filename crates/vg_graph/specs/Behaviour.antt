-- The nodes of the parts of an instruction.
use Rattle.std.specs.Prelude.{◌≡◌, ℕ, ◌<◌, List, [], ◌∷◌, length, Option, Some, None, slice_get, IsTrue}
use Rattle.vg_isa.specs.declared.isa.Parts.{Parts}
use Rattle.vg_isa.specs.declared.expr.Expr.{Expr}
use Rattle.vg_isa.specs.declared.instr.Instr.{Instr}
use Rattle.vg_isa.specs.declared.instr.Write.{Write}
use Rattle.vg_isa.specs.Typing.{is_typed}
use Rattle.vg_graph.specs.declared.node.Node.{Node}
use Rattle.vg_graph.specs.declared.root.Root.{Root}
use Rattle.vg_graph.specs.declared.roots.Roots.{Roots}
use Rattle.vg_graph.specs.declared.roots.WriteRoots.{WriteRoots}
use Rattle.vg_graph.specs.declared.roots.NextRoots.{NextRoots}
use Rattle.vg_graph.specs.Tree.{IsTree}
use Rattle.vg_graph.specs.Graph.{GraphValue, IsGraphOf, StandsAt, root_of}

-- the tree, where there is one, is typed
abbrev pub IsTypedAt : Parts → Option Expr → Type 0
IsTypedAt d None = Unit {0}
IsTypedAt d (Some e) = IsTrue (is_typed d e)

-- the trees of a write stand at its nodes
pub record IsWriteAt (nodes : List Node) (w : WriteRoots) (write : Write) : Type 0 where
  pub guard : IsTree nodes w.guard write.guard
  pub at : StandsAt nodes w.at write.at
  pub value : IsTree nodes w.value write.value

-- the trees of writes stand at their nodes, write by write
abbrev pub AreWritesAt : List Node → List WriteRoots → List Write → Type 0
AreWritesAt nodes [] [] = Unit {0}
AreWritesAt nodes (w ∷ ws) (x ∷ xs) = IsWriteAt nodes w x × AreWritesAt nodes ws xs
AreWritesAt nodes (w ∷ ws) [] = ⊥
AreWritesAt nodes [] (x ∷ xs) = ⊥

-- the trees of the next program counter stand at its nodes; or there is none
abbrev pub IsNextAt : List Node → Option NextRoots → Option (Expr × Expr) → Type 0
IsNextAt nodes None None = Unit {0}
IsNextAt nodes (Some n) (Some x) = IsTree nodes n.guard x.0 × IsTree nodes n.value x.1
IsNextAt nodes None (Some x) = ⊥
IsNextAt nodes (Some n) None = ⊥

-- the graph is that of the instruction with this number
pub record IsGraphOfNumber (d : Parts) (i : ℕ) (g : GraphValue) : Type 0 where
  pub instr : Instr
  pub is : slice_get d.instrs i ≡ Some instr
  pub of : IsGraphOf instr g

-- the roots are nodes of the graph
abbrev pub AreRootsOf : GraphValue → Roots → Type 0
AreRootsOf g roots = (r : Root) (n : ℕ) → root_of roots r ≡ Some n → n < length g.nodes
