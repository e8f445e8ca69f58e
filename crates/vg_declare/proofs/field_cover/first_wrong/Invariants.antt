use Rattle.std.proofs.Common.{drop}
use Rattle.vg_inline.specs.Context.{constants_in}
use Rattle.vg_declare.proofs.FieldLemmas.{FieldsLeft}
use Rattle.vg_declare.proofs.field_cover.first_wrong.Given as goal

abbrev pub invariant-loop-field : goal.invariant-loop-field
invariant-loop-field l = FieldsLeft (constants_in l.context) l.width l.fields l.named (drop l.field-index l.fields)
