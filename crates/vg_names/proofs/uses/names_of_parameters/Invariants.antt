use Rattle.std.proofs.Common.{take}
use Rattle.vg_names.specs.Scoped.{HasNames}
use Rattle.vg_names.proofs.uses.names_of_parameters.Given as goal

abbrev pub invariant-loop-parameter : goal.invariant-loop-parameter
invariant-loop-parameter l = HasNames l.names (take l.parameter-index l.parameters)
