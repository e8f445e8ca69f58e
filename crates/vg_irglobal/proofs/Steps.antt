-- Facts that the code's functions use.
use Rattle.vg_irread.proofs.Steps.{length-placed}

pub ruleset code_steps = (length-placed)
