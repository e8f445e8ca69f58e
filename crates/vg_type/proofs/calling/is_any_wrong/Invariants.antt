use Rattle.std.proofs.Common.{◌≡◌, drop, map}
use Rattle.vg_ast.specs.declared.parameter.Parameter.{Parameter}
use Rattle.vg_type.specs.Scope.{type_in}
use Rattle.vg_type.specs.Setting.{globals_in}
use Rattle.vg_type.specs.Calls.{is_any_none}
use Rattle.vg_type.proofs.calling.is_any_wrong.Given as goal

abbrev pub invariant-loop-parameter : goal.invariant-loop-parameter
invariant-loop-parameter l =
    is_any_none (map (λ (parameter : Parameter). type_in (globals_in l.context) parameter.declared) l.parameters)
    ≡ is_any_none (map (λ (parameter : Parameter). type_in (globals_in l.context) parameter.declared) (drop l.parameter-index l.parameters))
