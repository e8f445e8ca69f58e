use Rattle.vg_whole.proofs.Constants.{constants_are_worked}
use Rattle.vg_whole.proofs.working.constants_are_worked.Goals as goal

pub returns : goal.returns
returns c = constants_are_worked
