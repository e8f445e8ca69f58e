use Rattle.vg_cycle.proofs.Ticking.{tick_wins, ticks_stand, enough_retire}
use Rattle.vg_cycle.proofs.laws.pipeline_advances.Goals as goal

pub returns : goal.returns
returns c d run placed runs = record {
  wins = λ p asked q stands tick. tick_wins d placed p asked q stands.shape tick;
  stages_done = ticks_stand d placed run runs;
  retires = enough_retire d placed run runs;
}
