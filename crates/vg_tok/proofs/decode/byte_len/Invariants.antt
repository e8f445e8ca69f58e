use Rattle.std.proofs.Common.{◌≡◌, ◌+◌, drop}
use Rattle.vg_tok.specs.Lexing.{byte_len}
use Rattle.vg_tok.proofs.decode.byte_len.Given as goal

abbrev pub invariant-loop-c : goal.invariant-loop-c
invariant-loop-c l = l.len + byte_len (drop l.c-index l.text) ≡ byte_len l.text
