use Rattle.std.proofs.Common.{◌+◌, ◌∙◌, List, [], ◌∷◌, map, drop, ap, subst}
use Rattle.vg_inline.specs.Context.{constants_in}
use Rattle.vg_declare.specs.declared.span.Span.{Span}
use Rattle.vg_declare.specs.FieldCover.{ends_of, span}
use Rattle.vg_declare.specs.Mask.{Names}
use Rattle.vg_declare.proofs.RangeLemmas.{IsBeside, beside_more, map_rest}
use Rattle.vg_declare.proofs.field_cover.beside.Goals as goal

pub loop-range-preserved : goal.loop-range-preserved
loop-range-preserved c = λ spans names.
    let ends = ends_of (constants_in c.args.context.now) in
    let all = map span (map ends c.args.ranges.now) in
    beside_more c.args.width spans all c.loop-range.all (span (ends c.range-item.result) ∷ []) (map span (map ends (drop (c.loop-range.range-index + 1) c.args.ranges.now)))
    (subst (λ (rest : List Span). IsBeside c.args.width spans all c.loop-range.all rest) (ap (map span) (map_rest ends c.args.ranges.now c.loop-range.range-index c.range-item.result c.loop-range-test.true c.range-item.is)) (c.loop-range.invariant spans names))
    c.mask_of-all.result
    (subst (λ (s : Span). Names c.args.width c.mask_of-all.result (s ∷ [])) (c.span.ensures.span ∙ ap span c.ends_of.ensures) c.mask_of-all.ensures)
