use Rattle.std.proofs.Common.{◌≡◌, drop}
use Rattle.vg_processor.specs.IsaOf.{field_named}
use Rattle.vg_processor.proofs.fields.field_named.Given as goal

abbrev pub invariant-loop-field : goal.invariant-loop-field
invariant-loop-field l = field_named l.fields l.text ≡ field_named (drop l.field-index l.fields) l.text
