use Rattle.vg_decode.proofs.FirstPair.{overlap_ambiguous}
use Rattle.vg_decode.proofs.laws.overlap_is_ambiguous.Goals as goal

pub returns : goal.returns
returns c = overlap_ambiguous
