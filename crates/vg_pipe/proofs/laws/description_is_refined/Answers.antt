use Rattle.std.proofs.Common.{◌∙◌, ap, sym}
use Rattle.vg_cycle.specs.Description.{IsPlaced, IsRun}
use Rattle.vg_cycle.proofs.Keeping.{move_stands, fetch_stands}
use Rattle.vg_cycle.proofs.Ticking.{new_stands, over_ends, tick_stands}
use Rattle.vg_pipe.specs.Seen.{seen}
use Rattle.vg_pipe.specs.Run.{run_from}
use Rattle.vg_pipe.proofs.Placed.{is_placed}
use Rattle.vg_pipe.proofs.Contents.{run_is}
use Rattle.vg_pipe.proofs.laws.description_is_refined.Goals as goal

pub returns : goal.returns
returns c d micro i first planned h =
    let placed : IsPlaced (seen d micro i) = is_placed d micro planned i in
    let runs : IsRun (seen d micro i) (run_from d i first) = run_is d micro i first planned.accepted h in
    record {
      starts = new_stands (seen d micro i) placed (run_from d i first) runs;
      moves = move_stands (seen d micro i) placed (run_from d i first) runs;
      fetches = fetch_stands (seen d micro i) placed (run_from d i first) runs;
      ticks = tick_stands (seen d micro i) placed (run_from d i first) runs;
      ends = λ p stands over. ap (seen d micro i).code (sym (over_ends (seen d micro i) placed (run_from d i first) runs p stands over.empty)) ∙ over.stop;
    }
