use Rattle.std.proofs.Common.{drop, []}
use Rattle.vg_inline.specs.Context.{constants_in}
use Rattle.vg_declare.specs.FieldCover.{spans_of}
use Rattle.vg_declare.proofs.RangeLemmas.{IsBeside}
use Rattle.vg_declare.proofs.field_cover.are_all_named.Given as goal

abbrev pub invariant-loop-field : goal.invariant-loop-field
invariant-loop-field l = IsBeside l.width [] (spans_of (constants_in l.context) l.fields) l.named (spans_of (constants_in l.context) (drop l.field-index l.fields))
