use Rattle.vg_cycle.proofs.Samples.{one_stage, five_stages, five_move}
use Rattle.vg_cycle.proofs.laws.laws_have_instances.Goals as goal

pub returns : goal.returns
returns c = record { one = one_stage; five = five_stages; moves = five_move }
