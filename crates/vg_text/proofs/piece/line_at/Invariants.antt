use Rattle.std.proofs.Common.{take}
use Rattle.std.specs.Prelude.{IsTrue}
use Rattle.vg_text.specs.Piece.{lacks}
use Rattle.vg_text.proofs.piece.line_at.Given as goal

-- no line feed so far
abbrev pub invariant-loop-at : goal.invariant-loop-at
invariant-loop-at l = IsTrue (lacks 10 (take l.at l.text))
