use Rattle.vg_top.proofs.Names as names
use Rattle.vg_top.proofs.laws.ascii_names.Goals as goal

pub returns : goal.returns
returns c = names.ascii_names
