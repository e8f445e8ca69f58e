use Rattle.std.proofs.Common.{◌||◌, ◌+◌, take, get_or, sym}
use Rattle.std.specs.List.{list_any}
use Rattle.std.proofs.lemmas.List.Folds.{list_any_more}
use Rattle.vg_isa.specs.Accepted.{names_bit}
use Rattle.vg_format.proofs.MaskLemmas.{ones_or, ones_like}
use Rattle.vg_format.proofs.pattern.ranges_mask.Goals as goal

pub loop-high-preserved : goal.loop-high-preserved
loop-high-preserved c =
    let xs = c.args.ranges.now in
    let i = c.loop-high.high-index in
    ones_like (λ k. list_any (names_bit k) (take i xs) || names_bit k (get_or xs i (0, 0))) (λ k. list_any (names_bit k) (take (i + 1) xs)) _
    (λ k. sym (list_any_more (names_bit k) xs i (0, 0) c.loop-high-test.true))
    (ones_or (λ k. list_any (names_bit k) (take i xs)) (λ k. names_bit k (get_or xs i (0, 0))) c.loop-high.mask c.range_mask-mask.result c.loop-high.invariant c.range_mask-mask.ensures)
