use Rattle.vg_graph.proofs.ValueLemmas.{tree_worth, worth_tree}
use Rattle.vg_graph.proofs.laws.values_of_trees.Goals as goal

pub returns-clause-has : goal.returns-clause-has
returns-clause-has c d nodes word s n e stands = tree_worth d nodes word s n e stands

pub returns-clause-one : goal.returns-clause-one
returns-clause-one c d nodes word s n v e worth stands = worth_tree d nodes word s n v e worth stands
