use Rattle.vg_isa.proofs.Kept.{kept}
use Rattle.vg_isa.proofs.isa.Isa.regs.Goals as goal

pub returns-clause-declared : goal.returns-clause-declared
returns-clause-declared c = rw c.as_slice.ensures (kept c.self.inside.parts c.self.invariant).registers
