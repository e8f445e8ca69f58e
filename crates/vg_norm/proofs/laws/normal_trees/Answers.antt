use Rattle.std.proofs.Common.{sym}
use Rattle.vg_norm.specs.NormalTree.{normal_tree}
use Rattle.vg_norm.proofs.NormalLemmas.{normal_alike, normal_same, same_normal}
use Rattle.vg_norm.proofs.laws.normal_trees.Goals as goal

pub returns-clause-alike : goal.returns-clause-alike
returns-clause-alike c d e accepted typed = normal_alike d accepted e typed

pub returns-clause-exact : goal.returns-clause-exact
returns-clause-exact c d e f accepted e_typed f_typed = ((λ alike. normal_same d accepted e f alike e_typed), (λ h. same_normal d accepted e f e_typed f_typed h))

pub returns-clause-settled : goal.returns-clause-settled
returns-clause-settled c d e accepted typed = sym (normal_same d accepted e (normal_tree d e) (normal_alike d accepted e typed) typed)
