use Rattle.vg_isa.proofs.Kept.{kept}
use Rattle.vg_isa.proofs.isa.Isa.formats.Goals as goal

pub returns-clause-covered : goal.returns-clause-covered
returns-clause-covered c = rw (c.as_slice.ensures, ← c.self.view_is) (kept c.self.inside.parts c.self.invariant).formats
