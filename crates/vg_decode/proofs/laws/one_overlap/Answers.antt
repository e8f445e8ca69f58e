use Rattle.vg_decode.proofs.FirstPair.{one_first}
use Rattle.vg_decode.proofs.laws.one_overlap.Goals as goal

pub returns : goal.returns
returns c = one_first
