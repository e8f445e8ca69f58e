use Rattle.vg_place.proofs.Timely.{keeps_order}
use Rattle.vg_place.proofs.laws.cycles_keep_order.Goals as goal

pub returns : goal.returns
returns c d micro s = keeps_order d micro s
