use Rattle.vg_cycle.specs.Description.{IsPlaced, IsRun}
use Rattle.vg_cycle.proofs.Ticking.{tick_wins, ticks_stand, enough_retire}
use Rattle.vg_pipe.specs.Seen.{seen}
use Rattle.vg_pipe.specs.Run.{run_from}
use Rattle.vg_pipe.proofs.Placed.{is_placed}
use Rattle.vg_pipe.proofs.Contents.{run_is}
use Rattle.vg_pipe.proofs.laws.description_advances.Goals as goal

pub returns : goal.returns
returns c d micro i first planned h =
    let placed : IsPlaced (seen d micro i) = is_placed d micro planned i in
    let runs : IsRun (seen d micro i) (run_from d i first) = run_is d micro i first planned.accepted h in
    record {
      wins = λ p asked q stands tick. tick_wins (seen d micro i) placed p asked q stands.shape tick;
      stages_done = ticks_stand (seen d micro i) placed (run_from d i first) runs;
      retires = enough_retire (seen d micro i) placed (run_from d i first) runs;
    }
