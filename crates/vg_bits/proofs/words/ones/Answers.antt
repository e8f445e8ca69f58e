use Rattle.vg_bits.proofs.Masks.{ones_of_64, ones_of_128}
use Rattle.vg_bits.proofs.words.ones.Goals as goal

pub returns-then-n-le64 : goal.returns-then-n-le64
returns-then-n-le64 c = ones_of_64 c.args.n c.if-n-le64.true

pub returns-else-n-le64 : goal.returns-else-n-le64
returns-else-n-le64 c = ones_of_128 c.args.n c.requires.most
