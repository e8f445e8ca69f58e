use Rattle.std.proofs.Common.{◌∙◌}
use Rattle.vg_io.proofs.Told.{IsPut-put, IsPut-prefix}
use Rattle.vg_io.proofs.putting.put_all.Goals as goal

-- A put that fails or takes nothing leaves the front as it was.
pub returns-in_err-count-clause-prefix : goal.returns-in_err-count-clause-prefix
returns-in_err-count-clause-prefix g c =
    IsPut-prefix _ _ _ _ (IsPut-put _ _ _ _ _ 0 c.loop-rest.invariant.0 c.in_err-count.ensures.written)

-- What the put took goes from the rest to the front, and it left the counts.
pub loop-rest-preserved : goal.loop-rest-preserved
loop-rest-preserved g c = (
  rw c.split_at.ensures.back (IsPut-put _ _ _ _ _ c.in_ok-count.count c.loop-rest.invariant.0 c.in_ok-count.ensures.written),
  (c.in_ok-count.ensures.at_once.0 ∙ c.loop-rest.invariant.1.0, c.in_ok-count.ensures.at_once.1 ∙ c.loop-rest.invariant.1.1),
)

pub returns-clause-prefix : goal.returns-clause-prefix
returns-clause-prefix g c = IsPut-prefix _ _ _ _ c.loop-rest.invariant.0
