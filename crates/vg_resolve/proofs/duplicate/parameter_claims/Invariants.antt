use Rattle.std.proofs.Common.{map, drop}
use Rattle.vg_ast.specs.declared.parameter.Parameter.{Parameter}
use Rattle.vg_names.specs.declared.scope.Scope.TheVariants.{Parameters}
use Rattle.vg_names.specs.Duplicate.{claim}
use Rattle.vg_names.specs.Met.{keys_met}
use Rattle.vg_names.proofs.MetLemmas.{IsLeft}
use Rattle.vg_resolve.proofs.duplicate.parameter_claims.Given as goal

abbrev pub invariant-loop-parameter : goal.invariant-loop-parameter
invariant-loop-parameter l =
    let named = map (λ (parameter : Parameter). claim (Parameters l.item) parameter.name) in
    IsLeft (keys_met l.initial.met) (named l.parameters) (keys_met l.met) (named (drop l.parameter-index l.parameters))
