use Rattle.vg_inline.specs.Context.{effect_at}
use Rattle.vg_inline.specs.Kept.{no_effects}
use Rattle.vg_inline.proofs.StateLemmas.{Gathering}
use Rattle.vg_inline.proofs.stating.+state.Given as goal

abbrev pub invariant-state_all-loop-statement : goal.invariant-state_all-loop-statement
invariant-state_all-loop-statement l = Gathering l.context.keep (effect_at l.context l.names) l.statements l.statement-index no_effects l.effects
