-- By the longest lexeme in each place.
use Rattle.vg_irlex.proofs.Once.{lexes_once}
use Rattle.vg_irlex.proofs.Rows.{lexes_some}
use Rattle.vg_irlex.proofs.laws.one_list.Goals as goal

pub returns-clause-some : goal.returns-clause-some
returns-clause-some c = lexes_some

pub returns-clause-one : goal.returns-clause-one
returns-clause-one c = lexes_once
