use Rattle.vg_tree.specs.Access.{wrong_indices}
use Rattle.vg_stage.proofs.IndexLemmas.{LeastLeft}
use Rattle.vg_stage.proofs.index_field.+effect.Given as goal

abbrev pub invariant-effects_break-loop-effect : goal.invariant-effects_break-loop-effect
invariant-effects_break-loop-effect l = LeastLeft wrong_indices l.effects l.effect-index l.first
