use Rattle.vg_whole.specs.Bindings.{inner_worths}
use Rattle.vg_whole.specs.Worths.{constants_by}
use Rattle.vg_whole.proofs.StatementLemmas.{first-Let_statement}
use Rattle.vg_whole.proofs.overflow_statement.+statement.Goals as goal

pub statement-returns-in-Let : goal.statement-returns-in-Let
statement-returns-in-Let t c =
    let e = first-Let_statement (constants_by c.args.table.now.items.now c.args.worths.now) (inner_worths c.args.table.now.items.now c.args.bindings.now) c.in-Let.at c.in-Let.name c.in-Let.bound c.in-Let.body in
    cc
