use Rattle.vg_isa.proofs.Kept.{kept}
use Rattle.vg_isa.proofs.isa.Isa.word.Goals as goal

pub returns-clause-machine : goal.returns-clause-machine
returns-clause-machine c = (kept c.self.inside.parts c.self.invariant).word
