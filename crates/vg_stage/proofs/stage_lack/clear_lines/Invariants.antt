use Rattle.std.proofs.Common.{◌≡◌, ℕ, ◌&&◌, not, take}
use Rattle.vg_stage.specs.StageLack.{flag_at, is_done_on}
use Rattle.vg_stage.specs.StageMet.{lines_have}
use Rattle.vg_stage.proofs.stage_lack.clear_lines.Given as goal

abbrev pub invariant-loop-line : goal.invariant-loop-line
invariant-loop-line l = (k : ℕ) → flag_at l.flags k ≡ (flag_at l.initial.flags k && not (lines_have (is_done_on l.table.items.now l.kind k) (take l.line-index l.lines)))
