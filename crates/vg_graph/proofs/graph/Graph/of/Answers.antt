use Rattle.vg_graph.specs.Graph.{root_of, tree_of}
use Rattle.vg_graph.proofs.BehaviourLemmas.{at_within}
use Rattle.vg_graph.proofs.graph.Graph.of.Goals as goal

pub set_roots-requires : goal.set_roots-requires
set_roots-requires c = λ r n at. at_within c.add_parts.new.graph.nodes (root_of c.in_ok-roots.roots r) (tree_of c.instr.result.now r) n (c.in_ok-roots.ensures.stand r) at
