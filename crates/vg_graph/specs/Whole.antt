-- What a graph keeps of its parts.
use Rattle.std.specs.Prelude.{◌≡◌, ℕ, ◌<◌, ◌^◌, length, Some}
use Rattle.vg_isa.specs.declared.isa.Parts.{Parts}
use Rattle.vg_graph.specs.declared.root.Root.{Root}
use Rattle.vg_graph.specs.declared.roots.Roots.{Roots}
use Rattle.vg_graph.specs.declared.store.Store.{Store}
use Rattle.vg_graph.specs.Graph.{root_of}
use Rattle.vg_graph.specs.Store.{IsStore}
use Rattle.vg_graph.specs.Tree.{HaveTrees}

-- the nodes have trees, the roots are nodes, and each node has a number of 32 bits
pub record IsWhole (d : Parts) (s : Store) (all : Roots) : Type 0 where
  pub store : IsStore s
  pub trees : HaveTrees d s.nodes.items
  pub roots : (r : Root) (n : ℕ) → root_of all r ≡ Some n → n < length s.nodes.items
  pub few : length s.nodes.items < 2 ^ 32
