use Rattle.std.proofs.Common.{◌+◌, ◌≤◌, arith}
use Rattle.vg_bits.proofs.Modular.{fits_wider}
use Rattle.vg_bits.proofs.words.joined.Goals as goal

pub left-requires-clause-fits : goal.left-requires-clause-fits
left-requires-clause-fits c = fits_wider c.args.a c.args.k (c.args.k + c.args.m) c.requires.upper (omega arith)
