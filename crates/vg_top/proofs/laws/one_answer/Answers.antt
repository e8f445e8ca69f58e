use Rattle.vg_top.proofs.OneAnswer as one
use Rattle.vg_top.proofs.laws.one_answer.Goals as goal

pub returns : goal.returns
returns c = one.one_answer
