-- The answer of the set says whether it was met.
use Rattle.vg_stage.proofs.StageKeys.{repeat_found}
use Rattle.vg_stage.proofs.stage_met.repeats.Goals as goal

pub returns-clause-found : goal.returns-clause-found
returns-clause-found c = repeat_found (c.args.kind, c.args.text) c.args.met.now.keys _ c.in_ok-added.ensures.added
