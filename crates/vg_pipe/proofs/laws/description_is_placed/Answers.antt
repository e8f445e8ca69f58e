use Rattle.vg_pipe.proofs.Placed.{is_placed}
use Rattle.vg_pipe.proofs.laws.description_is_placed.Goals as goal

pub returns : goal.returns
returns c d micro i planned = is_placed d micro planned i
