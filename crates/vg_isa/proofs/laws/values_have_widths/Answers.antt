use Rattle.vg_isa.proofs.Lawful.{value_is}
use Rattle.vg_isa.proofs.laws.values_have_widths.Goals as goal

pub returns : goal.returns
returns c d e word s accepted typed lawful = value_is d word s accepted lawful e typed
