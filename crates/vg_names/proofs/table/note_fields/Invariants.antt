use Rattle.std.proofs.Common.{map, drop}
use Rattle.vg_ast.specs.declared.field.Field.{Field}
use Rattle.vg_names.specs.declared.scope.Scope.TheVariants.{Fields}
use Rattle.vg_names.specs.Met.{keys_met}
use Rattle.vg_names.proofs.TableLemmas.{IsNoted}
use Rattle.vg_names.proofs.table.note_fields.Given as goal

abbrev pub invariant-loop-field : goal.invariant-loop-field
invariant-loop-field l =
    let keys = map (λ (field : Field). (Fields l.item, field.name.text)) in
    IsNoted (keys_met l.initial.inner) (keys l.fields) (keys_met l.inner) (keys (drop l.field-index l.fields))
