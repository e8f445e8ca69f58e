use Rattle.vg_pipe.proofs.Contents.{run_is}
use Rattle.vg_pipe.proofs.laws.run_is_of_description.Goals as goal

pub returns : goal.returns
returns c d micro i first accepted h = run_is d micro i first accepted h
