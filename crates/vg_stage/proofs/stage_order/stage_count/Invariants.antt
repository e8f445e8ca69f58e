use Rattle.std.proofs.Common.{◌≡◌, ◌+◌, ◌≤◌, drop}
use Rattle.vg_stage.specs.StageOrder.{stage_count}
use Rattle.vg_stage.proofs.stage_order.stage_count.Given as goal

abbrev pub invariant-loop-line : goal.invariant-loop-line
invariant-loop-line l =
    record {
      counted : l.stages + stage_count (drop l.line-index l.lines) ≡ stage_count l.lines;
      few : l.stages ≤ l.line-index;
    }
