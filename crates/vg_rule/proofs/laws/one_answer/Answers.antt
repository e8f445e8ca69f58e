use Rattle.vg_rule.proofs.First.{one_answer}
use Rattle.vg_rule.proofs.laws.one_answer.Goals as goal

pub returns : goal.returns
returns c = one_answer
