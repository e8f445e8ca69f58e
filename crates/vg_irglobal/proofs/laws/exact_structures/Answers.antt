-- By the trees of structures.
use Rattle.vg_irglobal.proofs.StructuresExact.{structure_exact}
use Rattle.vg_irglobal.proofs.laws.exact_structures.Goals as goal

pub returns : goal.returns
returns c = structure_exact
