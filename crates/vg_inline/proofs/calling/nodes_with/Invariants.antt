use Rattle.vg_inline.proofs.CallLemmas.{Counting}
use Rattle.vg_inline.proofs.calling.nodes_with.Given as goal

abbrev pub invariant-loop-parameter : goal.invariant-loop-parameter
invariant-loop-parameter l = Counting l.keep l.arguments l.first l.parameters l.parameter-index l.total
