-- By the cases of a step, and by the number of steps.
use Rattle.vg_ir.proofs.Steps.{step-sound, run-sound}
use Rattle.vg_ir.proofs.laws.sound_states.Goals as goal

pub returns : goal.returns
returns c = record { steps = step-sound; runs = run-sound }
