use Rattle.vg_norm.proofs.AlikeLemmas.{alike_typing, alike_value}
use Rattle.vg_norm.proofs.laws.alike_trees.Goals as goal

pub returns-clause-typings : goal.returns-clause-typings
returns-clause-typings c d e f alike = alike_typing d e f alike

pub returns-clause-values : goal.returns-clause-values
returns-clause-values c d e f word s accepted lawful typed alike = alike_value d word s accepted lawful e f alike typed
