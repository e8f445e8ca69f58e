use Rattle.vg_cycle.proofs.Reasons.{choice_is_chosen, done, could_go, waits_stays}
use Rattle.vg_pipe.specs.Seen.{seen}
use Rattle.vg_pipe.proofs.Placed.{is_placed}
use Rattle.vg_pipe.proofs.laws.description_goes_by_reason.Goals as goal

pub returns : goal.returns
returns c d micro i planned = record {
  chosen = choice_is_chosen (seen d micro i);
  goes = λ u has older x none. (
    done (seen d micro i) (is_placed d micro planned i) u has older x,
    could_go (seen d micro i) (is_placed d micro planned i) u has older x none,
  );
  stays = waits_stays (seen d micro i) (is_placed d micro planned i);
}
