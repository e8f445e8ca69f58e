-- By the trees of terminators.
use Rattle.vg_irread.proofs.TerminatorExact.{terminators_exact}
use Rattle.vg_irread.proofs.laws.exact_terminators.Goals as goal

pub returns : goal.returns
returns c = terminators_exact
