use Rattle.std.proofs.Common.{drop}
use Rattle.vg_names.specs.Duplicate.{claims_from}
use Rattle.vg_names.specs.Met.{keys_met}
use Rattle.vg_names.proofs.MetLemmas.{IsLeft}
use Rattle.vg_resolve.proofs.duplicate.items_claims.Given as goal

abbrev pub invariant-loop-number : goal.invariant-loop-number
invariant-loop-number l = IsLeft (keys_met l.initial.met) (claims_from 0 l.items) (keys_met l.met) (claims_from l.number (drop l.number l.items))
