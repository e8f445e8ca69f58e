use Rattle.std.proofs.Common.{◌≡◌, ◌≤◌, drop}
use Rattle.std.specs.Option.{option_or}
use Rattle.vg_names.specs.Definition.{Text}
use Rattle.vg_names.specs.Table.{found_at}
use Rattle.vg_stage.specs.StageMet.{first_stage, is_write_to}
use Rattle.vg_stage.specs.StageOrder.{acts_from}
use Rattle.vg_stage.proofs.write_stages.stages_of.Given as goal

abbrev pub invariant-loop-line : goal.invariant-loop-line
invariant-loop-line l =
    record {
      noted : (text : Text) → option_or (found_at l.stages text) (first_stage (is_write_to text) (acts_from l.stage (drop l.line-index l.lines))) ≡ first_stage (is_write_to text) (acts_from 0 l.lines);
      few : l.stage ≤ l.line-index;
    }
