use Rattle.std.proofs.Common.{◌<◌, arith}
use Rattle.vg_isa.proofs.Registers.{index_below}
use Rattle.vg_eval.proofs.number.register.Goals as goal

pub overflow_cast-value : goal.overflow_cast-value
overflow_cast-value g c =
    let small : c.args.index.number < 64 = index_below c.args.isa.now c.args.r.0 c.args.index.width c.args.index.number c.parts.ensures.typed c.requires.file c.value.ensures.below in
    omega arith
