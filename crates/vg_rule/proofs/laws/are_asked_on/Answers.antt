use Rattle.vg_rule.proofs.Asking.{asked_on}
use Rattle.vg_rule.proofs.laws.are_asked_on.Goals as goal

pub returns : goal.returns
returns c = asked_on
