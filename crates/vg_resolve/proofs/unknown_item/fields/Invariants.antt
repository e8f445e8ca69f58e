use Rattle.std.proofs.Common.{◌≡◌, drop}
use Rattle.vg_names.specs.First.{first_of}
use Rattle.vg_names.specs.Unknown.{in_each, range_unknowns}
use Rattle.vg_ast.specs.declared.field.Field.{Field}
use Rattle.vg_resolve.proofs.unknown_item.fields.Given as goal

abbrev pub invariant-loop-field : goal.invariant-loop-field
invariant-loop-field l = first_of (in_each (λ (field : Field). in_each (range_unknowns l.table.items.now) field.ranges) l.fields) ≡ first_of (in_each (λ (field : Field). in_each (range_unknowns l.table.items.now) field.ranges) (drop l.field-index l.fields))
