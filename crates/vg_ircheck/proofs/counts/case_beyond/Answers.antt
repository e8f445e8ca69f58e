-- Other ends than that of a switch have no cases.
use Rattle.std.proofs.Common.{sym, ap, ◌∙◌}
use Rattle.vg_ircheck.specs.Place.{first_place}
use Rattle.vg_ircheck.specs.Counts.{first_beyond, most_cases, case_numbers}
use Rattle.vg_ircheck.proofs.CountLemmas.{beyond_of_none}
use Rattle.vg_ircheck.proofs.counts.case_beyond.Goals as goal

pub returns-in-Jump : goal.returns-in-Jump
returns-in-Jump c = beyond_of_none most_cases ∙ ap (λ t. first_place (first_beyond most_cases (case_numbers t))) (sym c.in-Jump.is)

pub returns-in-Branch : goal.returns-in-Branch
returns-in-Branch c = beyond_of_none most_cases ∙ ap (λ t. first_place (first_beyond most_cases (case_numbers t))) (sym c.in-Branch.is)

pub returns-in-Return : goal.returns-in-Return
returns-in-Return c = beyond_of_none most_cases ∙ ap (λ t. first_place (first_beyond most_cases (case_numbers t))) (sym c.in-Return.is)

pub returns-in-Unreachable : goal.returns-in-Unreachable
returns-in-Unreachable c = beyond_of_none most_cases ∙ ap (λ t. first_place (first_beyond most_cases (case_numbers t))) (sym c.in-Unreachable.is)
