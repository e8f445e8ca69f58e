use Rattle.std.proofs.Common.{◌≡◌, map, take}
use Rattle.vg_ast.specs.declared.field.Field.{Field}
use Rattle.vg_inline.specs.Context.{constants_in}
use Rattle.vg_type.specs.ValueType.{sort_of_type}
use Rattle.vg_type.specs.Scope.{field_type}
use Rattle.vg_tree.proofs.formats.sorts_of.Given as goal

abbrev pub invariant-loop-field : goal.invariant-loop-field
invariant-loop-field l = l.sorts ≡ map (λ (field : Field). sort_of_type (field_type (constants_in l.context) field)) (take l.field-index l.fields)
