use Rattle.std.proofs.Common.{◌≡◌, ◌++◌, flat_map, drop}
use Rattle.vg_tree.specs.Access.{readings_of}
use Rattle.vg_tree.specs.Frame.{frame_in}
use Rattle.vg_access.proofs.gathering.+effect.Given as goal

abbrev pub invariant-push_effects-loop-effect : goal.invariant-push_effects-loop-effect
invariant-push_effects-loop-effect l = l.readings ++ flat_map (readings_of (frame_in l.frame)) (drop l.effect-index l.effects) ≡ l.initial.readings ++ flat_map (readings_of (frame_in l.frame)) l.effects
