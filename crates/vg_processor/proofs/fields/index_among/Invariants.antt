use Rattle.std.proofs.Common.{◌≡◌, length, map}
use Rattle.vg_ast.specs.declared.field.Field.{Field}
use Rattle.vg_processor.specs.IsaOf.{index_from}
use Rattle.vg_processor.proofs.fields.index_among.Given as goal

abbrev pub invariant-loop-field : goal.invariant-loop-field
invariant-loop-field l = index_from 0 (map (λ (field : Field). field.name.text) l.fields) l.text ≡ index_from l.index (map (λ (field : Field). field.name.text) l.rest) l.text

abbrev pub decreases-loop-field : goal.decreases-loop-field
decreases-loop-field l = length l.rest
