-- No step is made from an end.
use Rattle.vg_ir.proofs.OneEnd.{stays, one_end}
use Rattle.vg_ir.proofs.laws.one_end.Goals as goal

pub returns : goal.returns
returns c = record { stays = stays; one = one_end }
