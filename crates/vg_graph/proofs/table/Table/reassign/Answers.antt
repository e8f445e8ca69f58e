use Rattle.vg_graph.proofs.TableLemmas.{taken}
use Rattle.vg_graph.proofs.table.Table.reassign.Goals as goal

pub insert-requires-clause-free : goal.insert-requires-clause-free
insert-requires-clause-free c = rw c.unlink.ensures.value (taken c.args.self.now c.args.n)
