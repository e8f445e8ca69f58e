use Rattle.std.proofs.Common.{length}
use Rattle.vg_irlex.proofs.Rows.{IsReadTo}
use Rattle.vg_irlex.proofs.lexer.lexemes.Given as goal

abbrev pub invariant-loop-rest : goal.invariant-loop-rest
invariant-loop-rest l = IsReadTo l.text l.lexemes l.rest l.at l.fresh

abbrev pub decreases-loop-rest : goal.decreases-loop-rest
decreases-loop-rest l = length l.rest
