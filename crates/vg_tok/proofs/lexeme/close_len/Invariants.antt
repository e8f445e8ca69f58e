use Rattle.std.proofs.Common.{◌≡◌, drop, false}
use Rattle.vg_tok.specs.Front.{close_from}
use Rattle.vg_tok.proofs.lexeme.close_len.Given as goal

abbrev pub invariant-loop-i : goal.invariant-loop-i
invariant-loop-i l = close_from l.i l.star (drop l.i l.text) ≡ close_from 0 false l.text
