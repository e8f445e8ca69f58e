-- By the cases of a step.
use Rattle.vg_ir.proofs.Failing.{only_when, whenever}
use Rattle.vg_ir.proofs.laws.ten_causes.Goals as goal

pub returns : goal.returns
returns c = record { only = only_when; each = whenever }
