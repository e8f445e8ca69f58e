use Rattle.std.proofs.Common.{◌≡◌, drop}
use Rattle.vg_ast.specs.declared.field.Field.{Field}
use Rattle.vg_names.specs.First.{first_of}
use Rattle.vg_names.specs.Unknown.{in_each}
use Rattle.vg_whole.specs.Overflow.{range_overflows}
use Rattle.vg_whole.specs.Worths.{constants_by}
use Rattle.vg_whole.proofs.overflow_item.fields.Given as goal

abbrev pub invariant-loop-field : goal.invariant-loop-field
invariant-loop-field l =
    first_of (in_each (λ (field : Field). in_each (range_overflows (constants_by l.table.items.now l.worths)) field.ranges) l.fields)
    ≡ first_of (in_each (λ (field : Field). in_each (range_overflows (constants_by l.table.items.now l.worths)) field.ranges) (drop l.field-index l.fields))
