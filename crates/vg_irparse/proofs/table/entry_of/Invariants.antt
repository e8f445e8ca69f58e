use Rattle.std.proofs.Common.{◌≡◌, drop}
use Rattle.vg_irparse.specs.Words.{entry_of}
use Rattle.vg_irparse.specs.Rows.{rows}
use Rattle.vg_irparse.proofs.table.entry_of.Given as goal

abbrev pub invariant-loop-entry : goal.invariant-loop-entry
invariant-loop-entry g l = entry_of (rows (drop l.entry-index l.table)) l.text ≡ entry_of (rows l.table) l.text
