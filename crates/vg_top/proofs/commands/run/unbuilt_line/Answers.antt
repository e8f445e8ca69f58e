use Rattle.std.proofs.Common.{arith}
use Rattle.vg_top.proofs.ImageLines.{line_fits}
use Rattle.vg_top.proofs.commands.run.unbuilt_line.Goals as goal

pub overflow_add-result : goal.overflow_add-result
overflow_add-result c = omega (arith, line_fits c.args.isa.now c.args.image.now c.parts.ensures.typed c.requires, c.len.ensures)
