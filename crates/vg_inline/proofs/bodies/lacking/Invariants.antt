use Rattle.std.proofs.Common.{◌≡◌, replicate, None}
use Rattle.vg_inline.proofs.bodies.lacking.Given as goal

abbrev pub invariant-loop : goal.invariant-loop
invariant-loop l = l.bodies ≡ replicate l.index None
