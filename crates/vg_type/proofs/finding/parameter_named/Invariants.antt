use Rattle.std.proofs.Common.{◌≡◌, drop}
use Rattle.vg_whole.specs.Whole.{inner_of}
use Rattle.vg_type.specs.Setting.{globals_in}
use Rattle.vg_type.specs.Scope.{parameter_sorts}
use Rattle.vg_type.proofs.finding.parameter_named.Given as goal

abbrev pub invariant-loop-parameter : goal.invariant-loop-parameter
invariant-loop-parameter l =
    inner_of (parameter_sorts (globals_in l.context) l.parameters) l.text
    ≡ inner_of (parameter_sorts (globals_in l.context) (drop l.parameter-index l.parameters)) l.text
