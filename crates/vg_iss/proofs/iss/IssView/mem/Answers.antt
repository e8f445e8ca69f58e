use Rattle.std.proofs.Common.{◌≡◌, ◌^◌}
use Rattle.vg_isa.specs.Value.{loaded}
use Rattle.vg_image.specs.State.{byte_at}
use Rattle.vg_iss.specs.Simulator.{state_of}
use Rattle.vg_iss.proofs.Words.{loaded_zero, no_byte}
use Rattle.vg_iss.proofs.iss.IssView.mem.Goals as goal

pub returns : goal.returns
returns c =
    let zero : loaded (byte_at (state_of c.args.self.now)) (2 ^ c.args.self.now.isa.now.pc.width) c.args._at.number c.args.bytes ≡ 0 =
    loaded_zero (byte_at (state_of c.args.self.now)) (2 ^ c.args.self.now.isa.now.pc.width) c.args._at.number c.args.bytes (no_byte c.args.self.now.pc c.args.self.now.registers.items) in
    cc (c.of-2.ensures, c.of.ensures, zero)
