use Rattle.std.proofs.Common.{◌≡◌, ℕ, ◌<◌, length, Some}
use Rattle.std.specs.Prelude.{slice_get}
use Rattle.vg_graph.specs.Evaluation.{IsWorth, value_in}
use Rattle.vg_graph.proofs.evaluation.put_values.Given as goal

abbrev pub invariant-loop-place : goal.invariant-loop-place
invariant-loop-place g l = record {
  count : length l.values.items ≡ length l.nodes;
  worth :
      (before k : ℕ) → before < l.place → slice_get l.order before ≡ Some k
      → IsWorth l.isa l.nodes l.word.number (g.V.View.reads l.v) k (value_in l.values.items k);
}
