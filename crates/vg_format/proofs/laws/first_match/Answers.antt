use Rattle.vg_format.proofs.First.{first_decodes}
use Rattle.vg_format.proofs.laws.first_match.Goals as goal

pub returns : goal.returns
returns c = first_decodes
