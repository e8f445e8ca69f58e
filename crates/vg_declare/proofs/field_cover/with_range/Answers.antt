-- Of a range that runs downwards within the word, the bits are asked.
use Rattle.std.proofs.Common.{sym, ◌∙◌, nat_le}
use Rattle.std.specs.List.{list_any}
use Rattle.std.proofs.lemmas.Bool.{or_right, or_from, lt-leb}
use Rattle.vg_declare.specs.FieldCover.{meet}
use Rattle.vg_declare.proofs.RangeLemmas.{range_is, range_named}
use Rattle.vg_declare.proofs.field_cover.with_range.Goals as goal

pub returns-then-is_met : goal.returns-then-is_met
returns-then-is_met c = λ front names.
    range_is c.args.width front c.args.ends c.span-bits.result c.span-bits.ensures.span (sym c.runs_upwards.ensures ∙ c.if-runs_upwards.false)
    ∙ or_right (nat_le c.args.width c.span-bits.result.high) (list_any (meet c.span-bits.result) front) (sym (c.is_met.ensures front names) ∙ c.if-is_met.true)

pub returns : goal.returns
returns c = λ front names. (
  range_is c.args.width front c.args.ends c.span-bits.result c.span-bits.ensures.span (sym c.runs_upwards.ensures ∙ c.if-runs_upwards.false)
      ∙ or_from (nat_le c.args.width c.span-bits.result.high) (list_any (meet c.span-bits.result) front) (lt-leb c.args.width c.span-bits.result.high c.if-bits-width.false) (sym (c.is_met.ensures front names) ∙ c.if-is_met.false),
  range_named c.args.width front c.args.ends c.span-bits.result c.span-bits.ensures.span (sym c.runs_upwards.ensures ∙ c.if-runs_upwards.false) c.args.named c.mask_of.result names c.mask_of.ensures,
)
