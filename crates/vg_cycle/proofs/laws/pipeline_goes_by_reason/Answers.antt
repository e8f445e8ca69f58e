use Rattle.vg_cycle.proofs.Reasons.{choice_is_chosen, done, could_go, waits_stays}
use Rattle.vg_cycle.proofs.laws.pipeline_goes_by_reason.Goals as goal

pub returns : goal.returns
returns c d placed = record {
  chosen = choice_is_chosen d;
  goes = λ u has older x none. (done d placed u has older x, could_go d placed u has older x none);
  stays = waits_stays d placed;
}
