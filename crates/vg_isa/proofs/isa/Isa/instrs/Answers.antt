use Rattle.vg_isa.proofs.Kept.{kept}
use Rattle.vg_isa.proofs.isa.Isa.instrs.Goals as goal

pub returns-clause-typed : goal.returns-clause-typed
returns-clause-typed c = rw (c.as_slice.ensures, ← c.self.view_is) (kept c.self.inside.parts c.self.invariant).instrs
