use Rattle.vg_place.proofs.Timely.{had_greatest}
use Rattle.vg_place.proofs.laws.location_terms.Goals as goal

pub returns : goal.returns
returns c l rows = had_greatest l rows
