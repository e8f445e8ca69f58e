-- By the trees of initialisers.
use Rattle.vg_irglobal.proofs.InitialsExact.{initial_exact}
use Rattle.vg_irglobal.proofs.laws.exact_initials.Goals as goal

pub returns : goal.returns
returns c = initial_exact
