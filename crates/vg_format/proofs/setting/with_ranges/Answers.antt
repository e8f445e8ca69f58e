use Rattle.std.proofs.Common.{◌≡◌, ◌+◌, ◌-◌, ◌/◌, ◌%◌, ◌^◌, ◌∷◌, drop, get_or, ◌∙◌, add-one, drop-cons, ap}
use Rattle.vg_format.specs.Replaced.{with_range, with_ranges}
use Rattle.vg_isa.specs.Declaration.{bits_of}
use Rattle.vg_format.proofs.Remaining.{Remains, part_is, next_remains}
use Rattle.vg_format.proofs.setting.with_ranges.Goals as goal

pub loop-high-preserved : goal.loop-high-preserved
loop-high-preserved c =
    let r = get_or c.args.ranges.now c.loop-high.high-index (0, 0) in
    let rest = drop (c.loop-high.high-index + 1) c.args.ranges.now in
    let whole = with_ranges c.args.ranges.now c.args.word c.args.value.number in
    let cons : drop c.loop-high.high-index c.args.ranges.now ≡ r ∷ rest = rw add-one (drop-cons c.args.ranges.now c.loop-high.high-index (0, 0) c.loop-high-test.true) in
    let h : Remains (r ∷ rest) c.loop-high.changed c.loop-high.left c.args.value whole = rw cons at c.loop-high.invariant in
    let part : c.slice.result.number ≡ c.args.value.number / 2 ^ bits_of rest % 2 ^ (r.0 + 1 - r.1) = part_is r rest c.loop-high.changed c.loop-high.left c.args.value whole h c.slice.result c.slice.ensures in
    next_remains r rest c.loop-high.changed c.loop-high.left c.args.value whole h c.with_range-changed.result
    (c.with_range-changed.ensures ∙ ap (with_range r c.loop-high.changed) (c.value-bits.ensures.value ∙ part))
