use Rattle.std.proofs.Common.{drop}
use Rattle.vg_names.specs.Duplicate.{stage_claims}
use Rattle.vg_names.specs.Met.{keys_met}
use Rattle.vg_names.proofs.MetLemmas.{IsLeft}
use Rattle.vg_resolve.proofs.duplicate.stage_claims.Given as goal

abbrev pub invariant-loop-line : goal.invariant-loop-line
invariant-loop-line l = IsLeft (keys_met l.initial.met) (stage_claims l.lines) (keys_met l.met) (stage_claims (drop l.line-index l.lines))
