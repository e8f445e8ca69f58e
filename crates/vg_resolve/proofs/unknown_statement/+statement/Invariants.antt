use Rattle.std.proofs.Common.{◌≡◌, drop, map}
use Rattle.vg_names.specs.First.{first_of}
use Rattle.vg_names.specs.Inner.{inner_names}
use Rattle.vg_names.specs.Unknown.{all_of, statement_unknowns}
use Rattle.vg_resolve.proofs.unknown_statement.+statement.Given as goal

abbrev pub invariant-statements-loop-one : goal.invariant-statements-loop-one
invariant-statements-loop-one l =
    first_of (all_of (map (statement_unknowns l.table.items.now) l.body) (inner_names l.table.items.now l.inner))
    ≡ first_of (all_of (map (statement_unknowns l.table.items.now) (drop l.one-index l.body)) (inner_names l.table.items.now l.inner))
