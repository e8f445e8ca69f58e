use Rattle.vg_tree.proofs.TypedTrees.{typed-made}
use Rattle.vg_tree.proofs.laws.made_is_typed.Goals as goal

pub returns : goal.returns
returns c d frame is t = typed-made d frame is t
