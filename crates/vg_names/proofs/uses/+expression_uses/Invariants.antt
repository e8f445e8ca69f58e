use Rattle.std.proofs.Common.{◌≡◌, take}
use Rattle.vg_names.specs.Numbers.{number_named, with_numbers}
use Rattle.vg_names.specs.Scoped.{inner_of, parameter_texts}
use Rattle.vg_names.proofs.NameLemmas.{arguments_names}
use Rattle.vg_names.proofs.uses.+expression_uses.Given as goal

abbrev pub invariant-loop-argument : goal.invariant-loop-argument
invariant-loop-argument l =
    (l.bound.items ≡ l.initial.bound.items)
    × (l.uses.items ≡ with_numbers (number_named l.scope.table.now.items.now) l.initial.uses.items (arguments_names (take l.argument-index l.argument-items) (inner_of l.initial.bound.items (parameter_texts l.scope.parameters.now))))
