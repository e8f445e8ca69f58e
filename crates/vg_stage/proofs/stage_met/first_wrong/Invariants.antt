use Rattle.vg_stage.specs.StageMet.{keys_met}
use Rattle.vg_stage.specs.StageOrder.{acts_from}
use Rattle.vg_stage.proofs.StageFirst.{LinesLeft}
use Rattle.vg_stage.proofs.stage_met.first_wrong.Given as goal

abbrev pub invariant-loop-line : goal.invariant-loop-line
invariant-loop-line l = LinesLeft l.table.items.now (acts_from 0 l.lines) l.lines (keys_met l.met) l.stage l.line-index
