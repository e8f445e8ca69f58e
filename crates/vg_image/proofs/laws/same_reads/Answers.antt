use Rattle.vg_image.proofs.SameReads.{same_states}
use Rattle.vg_image.proofs.laws.same_reads.Goals as goal

pub returns : goal.returns
returns c = same_states
