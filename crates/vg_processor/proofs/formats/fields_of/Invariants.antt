use Rattle.std.proofs.Common.{◌≡◌, map, take}
use Rattle.vg_type.specs.Setting.{setting_in}
use Rattle.vg_processor.specs.IsaOf.{field_decl}
use Rattle.vg_processor.proofs.formats.fields_of.Given as goal

abbrev pub invariant-loop-field : goal.invariant-loop-field
invariant-loop-field l = l.decls ≡ map (field_decl (setting_in l.setting.context.now)) (take l.field-index l.fields)
