use Rattle.vg_isa.proofs.SameLemmas.{same_tree-equal, equal-same_tree}
use Rattle.vg_isa.proofs.laws.same_trees.Goals as goal

pub returns : goal.returns
returns c e f = (same_tree-equal e f, equal-same_tree e f)
