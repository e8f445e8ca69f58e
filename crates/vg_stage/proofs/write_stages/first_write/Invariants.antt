use Rattle.std.proofs.Common.{◌≡◌, ◌≤◌, drop}
use Rattle.vg_stage.specs.declared.act_kind.ActKind.TheVariants.{Write}
use Rattle.vg_stage.specs.StageMet.{does, first_stage}
use Rattle.vg_stage.specs.StageOrder.{acts_from}
use Rattle.vg_stage.proofs.write_stages.first_write.Given as goal

abbrev pub invariant-loop-line : goal.invariant-loop-line
invariant-loop-line l =
    record {
      left : first_stage (does Write) (acts_from l.stage (drop l.line-index l.lines)) ≡ first_stage (does Write) (acts_from 0 l.lines);
      few : l.stage ≤ l.line-index;
    }
