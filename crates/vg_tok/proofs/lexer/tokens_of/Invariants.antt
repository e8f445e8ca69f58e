use Rattle.std.proofs.Common.{length}
use Rattle.vg_tok.specs.Reading.{IsReadTo}
use Rattle.vg_tok.proofs.lexer.tokens_of.Given as goal

abbrev pub invariant-loop-rest : goal.invariant-loop-rest
invariant-loop-rest l = IsReadTo l.characters l.tokens l.rest l.at

abbrev pub decreases-loop-rest : goal.decreases-loop-rest
decreases-loop-rest l = length l.rest
