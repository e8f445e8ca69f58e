use Rattle.vg_top.proofs.MemoryLines.{nothing_set}
use Rattle.vg_top.proofs.reports.state.IssMachine.next_set.Goals as goal

pub returns-clause-within : goal.returns-clause-within
returns-clause-within c = nothing_set c.args.self.now.pc c.args.from c.args.self.now.registers.items c.next_set.result _ c.next_set.ensures
