use Rattle.std.proofs.Common.{◌≡◌, ℕ, ◌<◌, length, drop}
use Rattle.std.specs.List.{All}
use Rattle.vg_names.proofs.Working.{Worked}
use Rattle.vg_whole.specs.declared.worth.Worth.{Worth}
use Rattle.vg_whole.specs.declared.worth.Worth.TheVariants as worths
use Rattle.vg_whole.specs.Whole.{constant_whole}
use Rattle.vg_whole.proofs.Constants.{constants_step}
use Rattle.vg_whole.proofs.working.worths.Given as goal

abbrev pub invariant-loop-number : goal.invariant-loop-number
invariant-loop-number l = record {
  within : All (λ (k : ℕ). k < length l.table.items.now) l.order;
  one_each : length l.worths.items ≡ length l.table.items.now;
  worked : Worked Worth worths.Typed constant_whole constants_step l.table.items.now l.worths.items (drop l.number-index l.order);
}
