use Rattle.vg_norm.proofs.Tested.{pc_fits}
use Rattle.vg_norm.proofs.tests.add_pc.Goals as goal

pub add_or_refuse-requires : goal.add_or_refuse-requires
add_or_refuse-requires c = pc_fits c.args.graph.now
