use Rattle.vg_mem.proofs.Stores.{loaded-stored}
use Rattle.vg_mem.proofs.laws.stored_is_loaded.Goals as goal

pub returns : goal.returns
returns c = loaded-stored
