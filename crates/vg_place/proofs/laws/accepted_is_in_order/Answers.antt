use Rattle.vg_place.proofs.Bounds.{micro_kept}
use Rattle.vg_place.proofs.laws.accepted_is_in_order.Goals as goal

pub returns : goal.returns
returns c d micro accepted has = (λ in_order. in_order.1, λ timely. (micro_kept d micro accepted has, timely))
