use Rattle.std.proofs.Common.{◌≡◌, drop}
use Rattle.vg_irparse.specs.Words.{is_one_of}
use Rattle.vg_irparse.specs.Rows.{texts}
use Rattle.vg_irparse.proofs.table.is_one_of.Given as goal

abbrev pub invariant-loop-word : goal.invariant-loop-word
invariant-loop-word l = is_one_of (texts (drop l.word-index l.table)) l.text ≡ is_one_of (texts l.table) l.text
