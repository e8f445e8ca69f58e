use Rattle.std.proofs.Common.{map, drop}
use Rattle.vg_ast.specs.declared.parameter.Parameter.{Parameter}
use Rattle.vg_names.specs.declared.scope.Scope.TheVariants.{Parameters}
use Rattle.vg_names.specs.Met.{keys_met}
use Rattle.vg_names.proofs.TableLemmas.{IsNoted}
use Rattle.vg_names.proofs.table.note_parameters.Given as goal

abbrev pub invariant-loop-parameter : goal.invariant-loop-parameter
invariant-loop-parameter l =
    let keys = map (λ (parameter : Parameter). (Parameters l.item, parameter.name.text)) in
    IsNoted (keys_met l.initial.inner) (keys l.parameters) (keys_met l.inner) (keys (drop l.parameter-index l.parameters))
