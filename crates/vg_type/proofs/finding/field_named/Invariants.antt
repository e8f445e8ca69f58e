use Rattle.std.proofs.Common.{◌≡◌, drop, map}
use Rattle.vg_ast.specs.declared.field.Field.{Field}
use Rattle.vg_inline.specs.Context.{constants_in}
use Rattle.vg_whole.specs.Whole.{inner_of}
use Rattle.vg_type.specs.ValueType.{sort_of_type}
use Rattle.vg_type.specs.Scope.{field_type}
use Rattle.vg_type.proofs.finding.field_named.Given as goal

abbrev pub invariant-loop-field : goal.invariant-loop-field
invariant-loop-field l =
    inner_of (map (λ (field : Field). (field.name.text, sort_of_type (field_type (constants_in l.context) field))) l.fields) l.text
    ≡ inner_of (map (λ (field : Field). (field.name.text, sort_of_type (field_type (constants_in l.context) field))) (drop l.field-index l.fields)) l.text
