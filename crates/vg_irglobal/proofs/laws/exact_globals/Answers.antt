-- By the trees of globals.
use Rattle.vg_irglobal.proofs.GlobalsExact.{global_item_exact}
use Rattle.vg_irglobal.proofs.laws.exact_globals.Goals as goal

pub returns : goal.returns
returns c = global_item_exact
