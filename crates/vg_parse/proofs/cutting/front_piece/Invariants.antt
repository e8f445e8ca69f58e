use Rattle.vg_parse.proofs.Front.{IsCutTo}
use Rattle.vg_parse.proofs.cutting.front_piece.Given as goal

abbrev pub invariant-loop-len : goal.invariant-loop-len
invariant-loop-len l = IsCutTo l.tokens l.fn.depths l.len l.depths l.fresh
