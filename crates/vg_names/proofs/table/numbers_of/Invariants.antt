use Rattle.std.proofs.Common.{◌≡◌, drop}
use Rattle.std.specs.Option.{option_or}
use Rattle.vg_names.specs.Definition.{Text}
use Rattle.vg_names.specs.Table.{found_at, number_from}
use Rattle.vg_names.proofs.table.numbers_of.Given as goal

abbrev pub invariant-loop-number : goal.invariant-loop-number
invariant-loop-number l = (text : Text) → option_or (found_at l.numbers text) (number_from l.number (drop l.number l.items) text) ≡ number_from 0 l.items text
