use Rattle.std.proofs.Common.{◌≡◌, drop}
use Rattle.vg_tok.specs.Lexing.{has_close}
use Rattle.vg_tok.proofs.lexer.has_close.Given as goal

abbrev pub invariant-loop-i : goal.invariant-loop-i
invariant-loop-i l = has_close (drop l.i l.bytes) ≡ has_close l.bytes
