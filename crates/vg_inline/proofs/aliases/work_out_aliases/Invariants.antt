use Rattle.std.proofs.Common.{◌≡◌, ℕ, ◌<◌, length, drop}
use Rattle.std.specs.List.{All}
use Rattle.vg_names.proofs.Working.{Worked}
use Rattle.vg_whole.specs.Worths.{constants_by}
use Rattle.vg_inline.specs.declared.declared.Declared.{Declared}
use Rattle.vg_inline.specs.declared.declared.Declared.TheVariants as type
use Rattle.vg_inline.specs.Types.{alias_step}
use Rattle.vg_inline.proofs.Steps.{alias_is_step}
use Rattle.vg_inline.proofs.aliases.work_out_aliases.Given as goal

abbrev pub invariant-loop-number : goal.invariant-loop-number
invariant-loop-number l =
    let constants = constants_by l.table.items.now l.worths in
    record {
      within : All (λ (k : ℕ). k < length l.table.items.now) l.order;
      one_each : length l.aliases.items ≡ length l.table.items.now;
      worked : Worked Declared type.Bool (alias_step constants) (alias_is_step constants) l.table.items.now l.aliases.items (drop l.number-index l.order);
    }
