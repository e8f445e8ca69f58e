use Rattle.vg_tree.specs.Frame.{frame_in}
use Rattle.vg_access.specs.Given.{writes_in}
use Rattle.vg_access.proofs.Writings.{TurnLeft}
use Rattle.vg_access.proofs.second_write.+effect.Given as goal

abbrev pub invariant-in_turn-loop-effect : goal.invariant-in_turn-loop-effect
invariant-in_turn-loop-effect l = TurnLeft (frame_in l.frame) l.effects l.effect-index (writes_in l.initial.path.items) (writes_in l.initial.others.items) (writes_in l.path.items) (writes_in l.others.items)
