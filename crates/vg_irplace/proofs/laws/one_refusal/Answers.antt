-- Arguments are asked first, and then sizes.
use Rattle.vg_irplace.proofs.Unplaced.{one_refusal}
use Rattle.vg_irplace.proofs.laws.one_refusal.Goals as goal

pub returns : goal.returns
returns c = one_refusal
