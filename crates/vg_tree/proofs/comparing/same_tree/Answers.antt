-- The test of equal trees tells the same.
use Rattle.vg_tree.proofs.SameLemmas.{same_told}
use Rattle.vg_tree.proofs.comparing.same_tree.Goals as goal

pub returns : goal.returns
returns c = same_told c.args.a.now c.args.b.now c.same.result c.same.ensures
