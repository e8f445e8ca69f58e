use Rattle.std.proofs.Common.{sym, ◌∙◌, arith}
use Rattle.vg_inline.specs.Context.{constants_in}
use Rattle.vg_type.proofs.FieldLemmas.{goes_on, too_many}
use Rattle.vg_type.proofs.fields.ranges_type.Goals as goal

pub returns-then-more-ge128 : goal.returns-then-more-ge128
returns-then-more-ge128 c =
    sym (c.loop-range.invariant.rest ∙ too_many (constants_in c.args.context.now) c.args.ranges.now c.loop-range.range-index c.loop-range.bits c.range-item.result
    c.loop-range-test.true c.range-item.is c.in-Some.more (sym c.span.ensures ∙ c.in-Some.is) (omega (arith, c.if-more-ge128.true)))

pub returns-then-bits-more-ge128 : goal.returns-then-bits-more-ge128
returns-then-bits-more-ge128 c =
    sym (c.loop-range.invariant.rest ∙ too_many (constants_in c.args.context.now) c.args.ranges.now c.loop-range.range-index c.loop-range.bits c.range-item.result
    c.loop-range-test.true c.range-item.is c.in-Some.more (sym c.span.ensures ∙ c.in-Some.is) c.if-bits-more-ge128.true)

pub loop-range-preserved : goal.loop-range-preserved
loop-range-preserved c = record {
  within = omega (arith, c.if-bits-more-ge128.false);
  rest = c.loop-range.invariant.rest ∙ goes_on (constants_in c.args.context.now) c.args.ranges.now c.loop-range.range-index c.loop-range.bits c.range-item.result
      c.loop-range-test.true c.range-item.is c.in-Some.more (sym c.span.ensures ∙ c.in-Some.is);
}
