use Rattle.std.proofs.Common.{◌≡◌, drop, map}
use Rattle.vg_names.specs.First.{first_of}
use Rattle.vg_names.specs.Inner.{inner_names}
use Rattle.vg_names.specs.Unknown.{all_of, expression_unknowns}
use Rattle.vg_resolve.proofs.unknown_expression.+expression.Given as goal

abbrev pub invariant-expressions-loop-argument : goal.invariant-expressions-loop-argument
invariant-expressions-loop-argument l =
    first_of (all_of (map (expression_unknowns l.table.items.now) l.arguments) (inner_names l.table.items.now l.inner))
    ≡ first_of (all_of (map (expression_unknowns l.table.items.now) (drop l.argument-index l.arguments)) (inner_names l.table.items.now l.inner))
