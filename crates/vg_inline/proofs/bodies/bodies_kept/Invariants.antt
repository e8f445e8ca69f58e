use Rattle.std.proofs.Common.{◌≡◌, ℕ, ◌<◌, length, drop}
use Rattle.std.specs.List.{All}
use Rattle.std.specs.Prelude.{Option}
use Rattle.vg_names.proofs.Working.{Worked}
use Rattle.vg_whole.specs.Worths.{constants_by}
use Rattle.vg_inline.specs.declared.kept.Kept.{Kept}
use Rattle.vg_inline.specs.Context.{aliases_by}
use Rattle.vg_inline.specs.Inline.{body_step}
use Rattle.vg_inline.specs.Kept.{keeping_as, kept_missing}
use Rattle.vg_inline.proofs.Steps.{body_is_step}
use Rattle.vg_inline.proofs.bodies.bodies_kept.Given as goal

abbrev pub invariant-loop-number : goal.invariant-loop-number
invariant-loop-number l =
    let all = l.table.items.now in
    let constants = constants_by l.table.items.now l.worths in
    let aliases = aliases_by l.table.items.now l.aliases in
    record {
      within : All (λ (k : ℕ). k < length l.table.items.now) l.order;
      one_each : length l.bodies ≡ length l.table.items.now;
      worked : Worked (Option Kept) (kept_missing l.keep) (body_step (keeping_as l.keep) all constants aliases) (body_is_step (Option Kept) (keeping_as l.keep) all constants aliases) l.table.items.now l.bodies (drop l.number-index l.order);
    }
