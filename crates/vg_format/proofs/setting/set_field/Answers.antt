use Rattle.std.proofs.Common.{◌≡◌, ◌<◌, ◌^◌, ap, ◌∙◌, subst}
use Rattle.vg_isa.specs.Declaration.{ranges_of}
use Rattle.vg_format.specs.Replaced.{with_ranges}
use Rattle.vg_format.proofs.FieldLemmas.{within_64, word_64, field_below}
use Rattle.vg_format.proofs.setting.set_field.Goals as goal

pub number_with-requires-clause-within : goal.number_with-requires-clause-within
number_with-requires-clause-within c = rw c.field_ranges-ranges.ensures.ranges (within_64 c.args.isa.now c.args.f c.field_ranges-ranges.ensures.typed c.requires.field)

pub number_with-requires-clause-word : goal.number_with-requires-clause-word
number_with-requires-clause-word c = rw c.value.ensures.value (word_64 c.args.isa.now c.args.word.number c.field_ranges-ranges.ensures.typed (subst (λ n. c.args.word.number < 2 ^ n) c.requires.word c.value.ensures.below))

pub of-requires : goal.of-requires
of-requires c =
    let small : c.args.word.number < 2 ^ c.args.isa.now.word = subst (λ n. c.args.word.number < 2 ^ n) c.requires.word c.value.ensures.below in
    let below : with_ranges (ranges_of c.args.isa.now c.args.f) c.args.word.number c.args.value.number < 2 ^ c.args.isa.now.word
    = field_below c.args.isa.now c.args.f c.args.word.number c.args.value.number c.field_ranges-ranges.ensures.typed c.requires.field small in
    let same : c.number_with.result ≡ with_ranges (ranges_of c.args.isa.now c.args.f) c.args.word.number c.args.value.number
    = c.number_with.ensures ∙ ap (λ r. with_ranges r c.value.result c.args.value.number) c.field_ranges-ranges.ensures.ranges
    ∙ ap (λ n. with_ranges (ranges_of c.args.isa.now c.args.f) n c.args.value.number) c.value.ensures.value in
    rw (same, c.width.ensures.value, c.requires.word) below
