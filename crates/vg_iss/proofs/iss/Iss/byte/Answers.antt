use Rattle.std.proofs.Common.{sym}
use Rattle.vg_iss.proofs.Words.{no_byte}
use Rattle.vg_iss.proofs.iss.Iss.byte.Goals as goal

pub returns : goal.returns
returns c = sym (no_byte c.args.self.now.pc c.args.self.now.registers.items c.args.at)
