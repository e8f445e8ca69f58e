use Rattle.std.proofs.Common.{◌≡◌, ◌+◌, ◌∷◌, drop, get_or, ◌∙◌, add-one, drop-cons, ap}
use Rattle.vg_bits.specs.BitValue as bits
use Rattle.vg_isa.proofs.Ranges.{join_more}
use Rattle.vg_isa.proofs.word_field.join_ranges.Goals as goal

pub loop-high-preserved : goal.loop-high-preserved
loop-high-preserved c =
    let r = get_or c.args.ranges.now c.loop-high.high-index (0, 0) in
    let rest = drop (c.loop-high.high-index + 1) c.args.ranges.now in
    let cons : drop c.loop-high.high-index c.args.ranges.now ≡ r ∷ rest = rw add-one (drop-cons c.args.ranges.now c.loop-high.high-index (0, 0) c.loop-high-test.true) in
    join_more c.loop-high.joined c.join-joined.result c.args.word r rest _ _ (c.join-joined.ensures ∙ ap (bits.join c.loop-high.joined) c.slice.ensures) (rw cons at c.loop-high.invariant)
