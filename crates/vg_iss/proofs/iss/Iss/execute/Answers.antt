use Rattle.std.proofs.Common.{◌<◌, ◌^◌, arith}
use Rattle.vg_iss.proofs.Widths.{address_below}
use Rattle.vg_iss.proofs.iss.Iss.execute.Goals as goal

pub overflow_cast-self : goal.overflow_cast-self
overflow_cast-self c =
    let small : c.next_of-next.result.number < 2 ^ 64 = address_below c.args.self.now.isa.now c.next_of-next.result.width c.next_of-next.result.number c.parts.ensures.typed c.next_of-next.ensures.width c.value.ensures.below in
    omega arith
