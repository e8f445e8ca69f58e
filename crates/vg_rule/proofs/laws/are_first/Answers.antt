use Rattle.vg_rule.proofs.First.{are_first}
use Rattle.vg_rule.proofs.laws.are_first.Goals as goal

pub returns : goal.returns
returns c = are_first
