use Rattle.std.proofs.Common.{◌≡◌, drop}
use Rattle.std.specs.List.{filter_map}
use Rattle.vg_type.specs.Setting.{setting_in}
use Rattle.vg_processor.specs.IsaOf.{first_some, template_by}
use Rattle.vg_processor.proofs.template.template_of.Given as goal

abbrev pub invariant-loop-item : goal.invariant-loop-item
invariant-loop-item l =
    first_some (filter_map (template_by (setting_in l.frame.setting.now.context.now) l.instruction l.frame.name.now) l.items)
    ≡ first_some (filter_map (template_by (setting_in l.frame.setting.now.context.now) l.instruction l.frame.name.now) (drop l.item-index l.items))
