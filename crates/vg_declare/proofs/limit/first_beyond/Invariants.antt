use Rattle.std.proofs.Common.{◌≡◌, drop}
use Rattle.vg_inline.specs.Context.{items_of}
use Rattle.vg_names.specs.First.{first_of}
use Rattle.vg_type.specs.Setting.{setting_in}
use Rattle.vg_declare.specs.Limit.{AreWithin, beyond_limits, excesses_behind}
use Rattle.vg_declare.proofs.limit.first_beyond.Given as goal

abbrev pub invariant-loop-item : goal.invariant-loop-item
invariant-loop-item l =
    let setting = setting_in l.setting.context.now in
    record {
      within : AreWithin l.counts;
      rest : first_of (beyond_limits setting) ≡ first_of (excesses_behind setting l.counts (drop l.item-index (items_of l.setting.context.now)));
    }
