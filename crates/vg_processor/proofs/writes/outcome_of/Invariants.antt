use Rattle.std.proofs.Common.{◌≡◌, drop}
use Rattle.vg_tree.specs.Frame.{frame_in}
use Rattle.vg_processor.specs.Outcome.{nothing_done, with_items}
use Rattle.vg_processor.proofs.writes.outcome_of.Given as goal

abbrev pub invariant-loop-item : goal.invariant-loop-item
invariant-loop-item l = with_items (frame_in l.frame) l.effect l.outcome (drop l.item-index l.item-items) ≡ with_items (frame_in l.frame) l.effect nothing_done l.item-items
