use Rattle.vg_norm.proofs.OneNodeLemmas.{alike_one}
use Rattle.vg_norm.proofs.laws.normal_graphs.Goals as goal

pub returns : goal.returns
returns c g m n e f accepted graph normal at_m at_n = alike_one g accepted graph normal m n e f at_m at_n
