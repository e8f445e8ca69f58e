-- The name wasn't there.
use Rattle.std.proofs.Common.{sym}
use Rattle.vg_names.proofs.TableLemmas.{number_noted}
use Rattle.vg_names.proofs.table.note_number.Goals as goal

pub returns : goal.returns
returns c = number_noted c.args.numbers.now c.insert.new.self c.args.text c.args.number (sym c.if-contains_key.ensures) c.in_ok-insert.ensures.updates
