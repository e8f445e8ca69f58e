-- By the law, since the diagram commutes.
use Rattle.vg_agree.proofs.Commuting.{adding_commutes}
use Rattle.vg_agree.proofs.adding.adding_agrees.Goals as goal

pub returns : goal.returns
returns c = λ xs. c.agreement.ensures xs (Prim.search adding_commutes)
