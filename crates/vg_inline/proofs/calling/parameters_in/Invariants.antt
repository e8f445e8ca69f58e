use Rattle.vg_inline.proofs.CallLemmas.{Listing}
use Rattle.vg_inline.proofs.calling.parameters_in.Given as goal

abbrev pub invariant-loop-parameter : goal.invariant-loop-parameter
invariant-loop-parameter l = Listing l.arguments l.parameters l.parameter-index l.list.items
