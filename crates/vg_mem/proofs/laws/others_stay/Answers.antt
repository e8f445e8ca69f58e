use Rattle.vg_mem.proofs.Stores.{stored_other}
use Rattle.vg_mem.proofs.laws.others_stay.Goals as goal

pub returns : goal.returns
returns c = stored_other
