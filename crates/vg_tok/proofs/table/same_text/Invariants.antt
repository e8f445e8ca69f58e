use Rattle.std.proofs.Common.{◌≡◌, drop}
use Rattle.vg_tok.specs.Lexing.{same_text}
use Rattle.vg_tok.proofs.table.same_text.Given as goal

abbrev pub invariant-loop-i : goal.invariant-loop-i
invariant-loop-i l = same_text (drop l.i l.spelling) (drop l.i l.text) ≡ same_text l.spelling l.text
