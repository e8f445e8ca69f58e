use Rattle.std.proofs.Common.{arith}
use Rattle.vg_isa.proofs.Kept.{word_most}
use Rattle.vg_asm.proofs.line.push_line.Goals as goal

pub find-requires : goal.find-requires
find-requires c = omega (arith, c.requires.word, word_most c.args.isa.now c.parts.ensures.typed)
