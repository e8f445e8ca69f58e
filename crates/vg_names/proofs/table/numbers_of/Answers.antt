-- The items behind one have its number, unless they define other names.
use Rattle.vg_names.specs.Table.{found_at}
use Rattle.vg_names.proofs.TableLemmas.{number_behind}
use Rattle.vg_names.proofs.table.numbers_of.Goals as goal

pub loop-number-preserved : goal.loop-number-preserved
loop-number-preserved c =
    λ text. number_behind c.args.items.now c.loop-number.number c.index-items-number.result text (found_at c.loop-number.numbers text) (found_at c.note_item.new.numbers text)
    c.loop-number-test.true c.index-items-number.is (c.loop-number.invariant text) (c.in_ok-note_item.ensures text)
