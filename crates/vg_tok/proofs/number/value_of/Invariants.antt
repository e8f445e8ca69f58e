use Rattle.std.proofs.Common.{◌≡◌, ◌<◌, ◌^◌, drop}
use Rattle.vg_tok.specs.Lexing.{value_from}
use Rattle.vg_tok.proofs.number.value_of.Given as goal

abbrev pub invariant-loop-c : goal.invariant-loop-c
invariant-loop-c l = (value_from l.base l.value (drop l.c-index l.digits) ≡ value_from l.base 0 l.digits) × (l.value < 2 ^ 128)
