use Rattle.std.proofs.Common.{◌≡◌, drop, map}
use Rattle.vg_names.specs.First.{first_of}
use Rattle.vg_whole.specs.Bindings.{inner_worths}
use Rattle.vg_whole.specs.Whole.{places_of_all, judged}
use Rattle.vg_whole.specs.Worths.{constants_by}
use Rattle.vg_whole.proofs.judging.+judged.Given as goal

abbrev pub invariant-first_of_all-loop-argument : goal.invariant-first_of_all-loop-argument
invariant-first_of_all-loop-argument l =
    first_of (places_of_all (map (judged (constants_by l.table.items.now l.worths)) l.arguments) (inner_worths l.table.items.now l.bindings))
    ≡ first_of (places_of_all (map (judged (constants_by l.table.items.now l.worths)) (drop l.argument-index l.arguments)) (inner_worths l.table.items.now l.bindings))
