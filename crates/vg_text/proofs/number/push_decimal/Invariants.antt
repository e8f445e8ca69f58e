use Rattle.std.proofs.Common.{◌≤◌}
use Rattle.vg_text.proofs.Decimal.{IsFilled}
use Rattle.vg_text.proofs.number.push_decimal.Given as goal

-- the lowest digits stand at the end of the buffer
abbrev pub invariant-loop-rest : goal.invariant-loop-rest
invariant-loop-rest l = record {
  filled : IsFilled l.fn.n l.rest l.start l.buffer;
  least : l.rest ≤ l.fn.n;
}

abbrev pub decreases-loop-rest : goal.decreases-loop-rest
decreases-loop-rest l = l.rest
