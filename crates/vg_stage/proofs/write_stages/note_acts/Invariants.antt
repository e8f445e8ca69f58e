use Rattle.std.proofs.Common.{◌≡◌, take}
use Rattle.std.specs.List.{list_any}
use Rattle.std.specs.Option.{option_or}
use Rattle.vg_names.specs.Definition.{Text}
use Rattle.vg_names.specs.Table.{found_at}
use Rattle.vg_stage.specs.StageMet.{is_write_to, stage_if}
use Rattle.vg_stage.proofs.write_stages.note_acts.Given as goal

abbrev pub invariant-loop-act : goal.invariant-loop-act
invariant-loop-act l = (other : Text) → found_at l.stages other ≡ option_or (found_at l.initial.stages other) (stage_if (list_any (is_write_to other) (take l.act-index l.acts)) l.stage)
