use Rattle.vg_image.proofs.Runs.{function_run, relation_run}
use Rattle.vg_image.proofs.laws.one_run.Goals as goal

pub returns-clause-relation : goal.returns-clause-relation
returns-clause-relation c d i bound s r = relation_run d i s bound r

pub returns-clause-function : goal.returns-clause-function
returns-clause-function c d i bound s = function_run d i s bound
