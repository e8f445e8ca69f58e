use Rattle.std.proofs.Common.{◌≡◌, drop, map}
use Rattle.vg_names.specs.First.{first_of}
use Rattle.vg_whole.specs.Bindings.{inner_worths}
use Rattle.vg_whole.specs.Overflow.{all_of, statement_overflows}
use Rattle.vg_whole.specs.Worths.{constants_by}
use Rattle.vg_whole.proofs.overflow_statement.+statement.Given as goal

abbrev pub invariant-statements-loop-one : goal.invariant-statements-loop-one
invariant-statements-loop-one l =
    first_of (all_of (map (statement_overflows (constants_by l.table.items.now l.worths)) l.body) (inner_worths l.table.items.now l.bindings))
    ≡ first_of (all_of (map (statement_overflows (constants_by l.table.items.now l.worths)) (drop l.one-index l.body)) (inner_worths l.table.items.now l.bindings))
