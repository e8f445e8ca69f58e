use Rattle.vg_stage.specs.StageMet.{keys_met}
use Rattle.vg_stage.specs.StageOrder.{acts_from}
use Rattle.vg_stage.proofs.StageFirst.{AreLeft}
use Rattle.vg_stage.proofs.stage_met.acts_break.Given as goal

abbrev pub invariant-loop-act : goal.invariant-loop-act
invariant-loop-act l = AreLeft (acts_from 0 l.writes.lines.now) l.stage (keys_met l.initial.met) l.acts (keys_met l.met) l.act-index
