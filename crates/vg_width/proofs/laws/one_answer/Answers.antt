use Rattle.vg_rule.specs.Order.{check_order}
use Rattle.vg_rule.proofs.First.{one_answer}
use Rattle.vg_width.specs.Rules.{places_of}
use Rattle.vg_width.proofs.laws.one_answer.Goals as goal

pub returns : goal.returns
returns c d = one_answer (places_of d) check_order
