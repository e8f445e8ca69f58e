-- The test goes over all blocks that may stand on a path.
use Rattle.vg_ircheck.proofs.Reached.{told_is_reached, reached_is_told}
use Rattle.vg_ircheck.proofs.laws.paths_told.Goals as goal

pub returns : goal.returns
returns c = λ f among b. record { told = told_is_reached f among b; tells = reached_is_told f among b }
