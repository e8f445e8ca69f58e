use Rattle.std.proofs.Common.{◌≡◌, List, map, Some, sym, ap, subst, ◌∙◌}
use Rattle.std.specs.Prelude.{IfOk}
use Rattle.vg_ast.specs.declared.field.Field.{Field}
use Rattle.vg_ast.specs.declared.item.Item.{Item}
use Rattle.vg_inline.specs.Context.{constants_in}
use Rattle.vg_type.specs.declared.sort.Sort.{Sort}
use Rattle.vg_type.specs.ValueType.{sort_of_type}
use Rattle.vg_type.specs.Scope.{field_type}
use Rattle.vg_tree.specs.Fields.{sorts_in}
use Rattle.vg_tree.proofs.FormatLemmas.{sorts_of_fields}
use Rattle.vg_tree.proofs.formats.sorts_of_item.Goals as goal

pub returns-in-Format : goal.returns-in-Format
returns-in-Format c =
    subst (λ (s : List Sort). IfOk c.sorts_of.result (λ sorts. sorts ≡ s))
    (ap (λ (fields : List Field). map (λ (field : Field). sort_of_type (field_type (constants_in c.args.context.now) field)) fields) c.as_slice.ensures
    ∙ sym (sorts_of_fields (constants_in c.args.context.now) c.in-Format.fields)
    ∙ ap (λ (i : Item). sorts_in (constants_in c.args.context.now) (Some i)) (sym c.in-Format.is))
    c.sorts_of.ensures
