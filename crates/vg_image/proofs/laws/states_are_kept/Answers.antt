use Rattle.vg_image.proofs.Kept.{first_kept, lawful, run_kept, step_kept}
use Rattle.vg_image.proofs.laws.states_are_kept.Goals as goal

pub returns-clause-first : goal.returns-clause-first
returns-clause-first c = first_kept

pub returns-clause-step : goal.returns-clause-step
returns-clause-step c d i s t accepted h moved = step_kept d i s t accepted h moved

pub returns-clause-run : goal.returns-clause-run
returns-clause-run c = run_kept

pub returns-clause-lawful : goal.returns-clause-lawful
returns-clause-lawful c = lawful
