use Rattle.vg_place.proofs.Agreeing.{values_agree}
use Rattle.vg_place.proofs.laws.values_agree.Goals as goal

pub returns : goal.returns
returns c = values_agree
