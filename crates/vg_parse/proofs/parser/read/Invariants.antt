use Rattle.std.proofs.Common.{length}
use Rattle.vg_parse.proofs.Reading.{IsReadTo}
use Rattle.vg_parse.proofs.parser.read.Given as goal

abbrev pub invariant-loop-rest : goal.invariant-loop-rest
invariant-loop-rest l = IsReadTo l.t l.state l.depths l.rest

abbrev pub decreases-loop-rest : goal.decreases-loop-rest
decreases-loop-rest l = length l.rest
