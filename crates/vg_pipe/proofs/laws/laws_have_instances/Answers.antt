use Rattle.vg_pipe.proofs.Samples.{five_planned, one_planned}
use Rattle.vg_pipe.proofs.laws.laws_have_instances.Goals as goal

pub returns : goal.returns
returns c = record { five = five_planned; one = one_planned }
