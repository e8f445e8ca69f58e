use Rattle.std.proofs.Common.{List, ap, sym, ◌∙◌}
use Rattle.vg_ast.specs.declared.field.Field.{Field}
use Rattle.vg_ast.specs.declared.item.Item.{Item}
use Rattle.vg_type.proofs.PlaceLemmas.{joined}
use Rattle.vg_type.specs.Faults.{of_each}
use Rattle.vg_type.specs.FirstPlaces.{first_places}
use Rattle.vg_type.specs.Item.{field_faults, format_type_faults, item_faults}
use Rattle.vg_type.specs.Setting.{scope_in, setting_in}
use Rattle.vg_type.proofs.describing.item.Goals as goal

pub returns-in-Format : goal.returns-in-Format
returns-in-Format c =
    let x = c.args.setting.now.context.now in
    let s = setting_in x in
    joined (format_type_faults s c.in-Format.declared) (of_each (field_faults (scope_in x)) c.in-Format.named) c.earlier.result c.format.result c.fields.result
    c.earlier.ensures c.format.ensures (c.fields.ensures ∙ ap (λ (l : List Field). first_places (of_each (field_faults (scope_in x)) l)) c.as_slice-in-Format.ensures)
    ∙ ap (λ (i : Item). first_places (item_faults s i)) (sym c.in-Format.is)
