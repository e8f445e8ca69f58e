use Rattle.vg_tree.proofs.FormatLemmas.{Entered}
use Rattle.vg_tree.proofs.formats.work_out_formats.Given as goal

abbrev pub invariant-loop-item : goal.invariant-loop-item
invariant-loop-item l = Entered l.items l.item-index l.formats l.table
