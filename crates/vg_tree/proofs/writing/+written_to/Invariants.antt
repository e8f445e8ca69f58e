use Rattle.std.proofs.Common.{◌≡◌, map, drop}
use Rattle.vg_tree.specs.Frame.{frame_in}
use Rattle.vg_tree.specs.Written.{first_written, written}
use Rattle.vg_tree.proofs.writing.+written_to.Given as goal

abbrev pub invariant-first_written-loop-effect : goal.invariant-first_written-loop-effect
invariant-first_written-loop-effect l =
    first_written (map (written (frame_in l.frame) l.item) l.effects) ≡ first_written (map (written (frame_in l.frame) l.item) (drop l.effect-index l.effects))
