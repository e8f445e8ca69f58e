use Rattle.std.proofs.Common.{◌≡◌, ◌||◌, ◌+◌, true, length, take, refl, sym, ap, ◌∙◌, subst}
use Rattle.std.specs.List.{list_any}
use Rattle.std.proofs.lemmas.List.Folds.{list_any_more}
use Rattle.std.proofs.lemmas.Option.{slice_get_read}
use Rattle.vg_isa.specs.Accepted.{is_fixed, names_bit}
use Rattle.vg_isa.proofs.Tests.{list_all-slice_get}
use Rattle.vg_format.specs.Encoding.{is_bit_of_any}
use Rattle.vg_format.specs.Pattern.{HasOnes}
use Rattle.vg_format.specs.Setting.{is_bit_of}
use Rattle.vg_format.proofs.FieldLemmas.{within_64}
use Rattle.vg_format.proofs.EncodingLemmas.{given_kept}
use Rattle.vg_format.proofs.MaskLemmas.{ones_or, ones_like}
use Rattle.vg_format.proofs.pattern.fields_mask.Goals as goal

pub ranges_mask-mask-requires : goal.ranges_mask-mask-requires
ranges_mask-mask-requires c =
    let d = c.args.isa.now in
    let give = c.loop-id-item.result in
    let fixed : is_fixed d c.args.format give ≡ true
    = list_all-slice_get (is_fixed d c.args.format) c.args.fields.now c.loop-id.id-index give c.requires
    (slice_get_read c.args.fields.now (length c.args.fields.now) c.loop-id.id-index give refl c.loop-id-test.true c.loop-id-item.is) in
    rw c.field_ranges.ensures.ranges (within_64 d give.0 c.field_ranges.ensures.typed (given_kept d c.args.format give fixed).has)

pub loop-id-preserved : goal.loop-id-preserved
loop-id-preserved c =
    let d = c.args.isa.now in
    let xs = c.args.fields.now in
    let i = c.loop-id.id-index in
    let give = c.loop-id-item.result in
    let ones : HasOnes (is_bit_of d give.0) c.ranges_mask-mask.result
    = subst (λ ranges. HasOnes (λ k. list_any (names_bit k) ranges) c.ranges_mask-mask.result) c.field_ranges.ensures.ranges c.ranges_mask-mask.ensures in
    ones_like (λ k. is_bit_of_any d (take i xs) k || is_bit_of d give.0 k) (λ k. is_bit_of_any d (take (i + 1) xs) k) _
    (λ k. ap (λ g. is_bit_of_any d (take i xs) k || is_bit_of d g.0 k) c.loop-id-item.is ∙ sym (list_any_more (λ g. is_bit_of d g.0 k) xs i give c.loop-id-test.true))
    (ones_or (is_bit_of_any d (take i xs)) (is_bit_of d give.0) c.loop-id.mask c.ranges_mask-mask.result c.loop-id.invariant ones)
