use Rattle.std.proofs.Common.{◌∙◌, ap, sym}
use Rattle.vg_cycle.proofs.Keeping.{move_stands, fetch_stands}
use Rattle.vg_cycle.proofs.Ticking.{new_stands, over_ends, tick_stands}
use Rattle.vg_cycle.proofs.laws.pipeline_refines.Goals as goal

pub returns : goal.returns
returns c d run placed runs = record {
  starts = new_stands d placed run runs;
  moves = move_stands d placed run runs;
  fetches = fetch_stands d placed run runs;
  ticks = tick_stands d placed run runs;
  ends = λ p stands over. ap d.code (sym (over_ends d placed run runs p stands over.empty)) ∙ over.stop;
}
