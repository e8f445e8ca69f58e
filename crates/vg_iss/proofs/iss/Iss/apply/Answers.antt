use Rattle.std.proofs.Common.{◌<◌, arith}
use Rattle.vg_iss.proofs.Widths.{index_small}
use Rattle.vg_iss.proofs.iss.Iss.apply.Goals as goal

pub overflow_cast-value : goal.overflow_cast-value
overflow_cast-value c =
    let small : c.in-Some.at.number < 64 = index_small c.args.self.now.isa.now c.args.made.resource c.in-Reg.r c.args.made.at c.in-Some.at c.args.made.value c.parts.ensures.typed c.in-Reg.is c.in-Some.is c.requires.widths c.value.ensures.below in
    omega arith
