use Rattle.std.proofs.Common.{◌≡◌, take}
use Rattle.vg_names.specs.Uses.{parameter_names}
use Rattle.vg_names.specs.Numbers.{number_named, with_numbers}
use Rattle.vg_names.proofs.uses.parameter_uses.Given as goal

abbrev pub invariant-loop-parameter : goal.invariant-loop-parameter
invariant-loop-parameter l =
    (l.bound.items ≡ l.initial.bound.items) × (l.uses.items ≡ with_numbers (number_named l.scope.table.now.items.now) l.initial.uses.items (parameter_names (take l.parameter-index l.parameters)))
