use Rattle.vg_inline.proofs.FindLemmas.{Seeking, parameters_from}
use Rattle.vg_inline.proofs.find.parameter_named.Given as goal

abbrev pub invariant-loop-number : goal.invariant-loop-number
invariant-loop-number l = Seeking (parameters_from l.fn.keep l.parameters) l.text l.number
