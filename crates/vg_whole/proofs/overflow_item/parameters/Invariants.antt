use Rattle.std.proofs.Common.{◌≡◌, drop, []}
use Rattle.vg_ast.specs.declared.parameter.Parameter.{Parameter}
use Rattle.vg_names.specs.First.{first_of}
use Rattle.vg_names.specs.Unknown.{in_each}
use Rattle.vg_whole.specs.Overflow.{type_overflows}
use Rattle.vg_whole.specs.Worths.{constants_by}
use Rattle.vg_whole.proofs.overflow_item.parameters.Given as goal

abbrev pub invariant-loop-parameter : goal.invariant-loop-parameter
invariant-loop-parameter l =
    first_of (in_each (λ (parameter : Parameter). type_overflows (constants_by l.table.items.now l.worths) parameter.declared []) l.parameters)
    ≡ first_of (in_each (λ (parameter : Parameter). type_overflows (constants_by l.table.items.now l.worths) parameter.declared []) (drop l.parameter-index l.parameters))
