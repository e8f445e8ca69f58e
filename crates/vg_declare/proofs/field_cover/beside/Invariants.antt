use Rattle.std.proofs.Common.{List, drop, map}
use Rattle.vg_inline.specs.Context.{constants_in}
use Rattle.vg_declare.specs.declared.span.Span.{Span}
use Rattle.vg_declare.specs.FieldCover.{ends_of, span}
use Rattle.vg_declare.specs.Mask.{Names}
use Rattle.vg_declare.proofs.RangeLemmas.{IsBeside}
use Rattle.vg_declare.proofs.field_cover.beside.Given as goal

abbrev pub invariant-loop-range : goal.invariant-loop-range
invariant-loop-range l =
    let ends = ends_of (constants_in l.context) in
    (spans : List Span) → Names l.width l.fn.named spans → IsBeside l.width spans (map span (map ends l.ranges)) l.all (map span (map ends (drop l.range-index l.ranges)))
