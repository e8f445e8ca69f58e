use Rattle.std.proofs.Common.{◌≡◌, drop}
use Rattle.vg_inline.specs.Context.{items_of}
use Rattle.vg_names.specs.First.{first_of}
use Rattle.vg_names.specs.Unknown.{in_each}
use Rattle.vg_type.specs.Setting.{setting_in}
use Rattle.vg_declare.specs.FieldValue.{item_values}
use Rattle.vg_declare.proofs.field_value.first_unfit.Given as goal

abbrev pub invariant-loop-item : goal.invariant-loop-item
invariant-loop-item l =
    let setting = setting_in l.setting.context.now in
    first_of (in_each (item_values setting) (items_of l.setting.context.now)) ≡ first_of (in_each (item_values setting) (drop l.item-index (items_of l.setting.context.now)))
