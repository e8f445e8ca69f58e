use Rattle.std.proofs.Common.{◌≡◌, ℕ, ◌&&◌, not, take}
use Rattle.std.specs.List.{list_any}
use Rattle.vg_stage.specs.StageLack.{flag_at, is_done_on}
use Rattle.vg_stage.proofs.stage_lack.clear_acts.Given as goal

abbrev pub invariant-loop-act : goal.invariant-loop-act
invariant-loop-act l = (k : ℕ) → flag_at l.flags k ≡ (flag_at l.initial.flags k && not (list_any (is_done_on l.table.items.now l.kind k) (take l.act-index l.acts)))
