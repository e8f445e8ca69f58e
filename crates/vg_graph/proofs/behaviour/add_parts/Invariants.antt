use Rattle.std.proofs.Common.{take}
use Rattle.vg_graph.specs.Building.{Extends}
use Rattle.vg_graph.specs.Behaviour.{AreWritesAt}
use Rattle.vg_graph.proofs.behaviour.add_parts.Given as goal

abbrev pub invariant-loop-write : goal.invariant-loop-write
invariant-loop-write l = record {
  extends : Extends l.initial.graph l.graph;
  stand : AreWritesAt l.graph.nodes l.writes.items (take l.write-index l.instr.writes);
}
