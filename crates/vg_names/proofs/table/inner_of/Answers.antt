-- What stands inside of an item stands before what stands inside of those behind it.
use Rattle.std.proofs.Common.{◌+◌, subst, drop, []}
use Rattle.vg_names.specs.Met.{keys_met}
use Rattle.vg_names.specs.Table.{inside, inside_from}
use Rattle.vg_names.proofs.TableLemmas.{IsNoted, noted_behind, inside_drop}
use Rattle.vg_names.proofs.table.inner_of.Goals as goal

pub loop-number-preserved : goal.loop-number-preserved
loop-number-preserved c =
    noted_behind [] (inside_from 0 c.args.items.now) (keys_met c.loop-number.inner) (inside c.loop-number.number c.index-items-number.result) (inside_from (c.loop-number.number + 1) (drop (c.loop-number.number + 1) c.args.items.now)) (keys_met c.note_inside.new.inner)
    (subst (IsNoted [] (inside_from 0 c.args.items.now) (keys_met c.loop-number.inner)) (inside_drop c.args.items.now c.loop-number.number c.index-items-number.result c.loop-number-test.true c.index-items-number.is) c.loop-number.invariant)
    c.in_ok-note_inside.ensures
