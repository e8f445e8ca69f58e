use Rattle.vg_iss.proofs.Words.{no_byte}
use Rattle.vg_iss.proofs.iss.Iss.next_set.Goals as goal

pub returns : goal.returns
returns c at above = no_byte c.args.self.now.pc c.args.self.now.registers.items at
