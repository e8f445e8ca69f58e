use Rattle.std.proofs.Common.{drop, ◌≡◌}
use Rattle.vg_ast.specs.declared.statement.Statement.{Statement}
use Rattle.vg_type.specs.Faults.{of_each}
use Rattle.vg_type.specs.FirstPlaces.{earlier, first_places}
use Rattle.vg_type.specs.Setting.{scope_in, sorts_of}
use Rattle.vg_type.specs.Statement.{statement_faults}
use Rattle.vg_type.proofs.stating.+statement.Given as goal

abbrev pub invariant-statements-loop-one : goal.invariant-statements-loop-one
invariant-statements-loop-one l =
    first_places (of_each (λ (s : Statement). statement_faults (scope_in l.setting.context.now) s (sorts_of l.setting.context.now l.names)) l.body)
    ≡ earlier l.places (first_places (of_each (λ (s : Statement). statement_faults (scope_in l.setting.context.now) s (sorts_of l.setting.context.now l.names)) (drop l.one-index l.body)))
