use Rattle.vg_inline.proofs.FindLemmas.{Seeking, fields_from}
use Rattle.vg_inline.proofs.find.field_named.Given as goal

abbrev pub invariant-loop-number : goal.invariant-loop-number
invariant-loop-number l = Seeking (fields_from l.fn.keep l.fields) l.text l.number
