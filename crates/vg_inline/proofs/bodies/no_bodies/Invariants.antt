use Rattle.std.proofs.Common.{◌≡◌, replicate}
use Rattle.vg_inline.specs.Kept.{kept_missing}
use Rattle.vg_inline.proofs.bodies.no_bodies.Given as goal

abbrev pub invariant-loop : goal.invariant-loop
invariant-loop l = l.bodies ≡ replicate l.index (kept_missing l.keep)
