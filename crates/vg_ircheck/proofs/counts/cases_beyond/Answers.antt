-- One thing more, and none left.
use Rattle.std.proofs.Common.{List, Option, flat_map, ap, ◌∙◌}
use Rattle.vg_ir.specs.declared.spot.Spot.{Spot}
use Rattle.vg_ir.specs.declared.block.Block.{Block}
use Rattle.vg_ircheck.specs.Place.{first_place}
use Rattle.vg_ircheck.specs.Counts.{first_beyond, most_cases, case_numbers, case_excess}
use Rattle.vg_ircheck.proofs.CountLemmas.{one_more, all_told}
use Rattle.vg_ircheck.proofs.counts.cases_beyond.Goals as goal

-- the first place in some blocks
abbrev blocks_first : List Block → Option Spot
blocks_first bs = first_place (flat_map (λ (b : Block). first_beyond most_cases (case_numbers b.terminator)) bs)

pub loop-function-preserved : goal.loop-function-preserved
loop-function-preserved c =
    one_more case_excess c.args.functions.now c.loop-function.function-index c.function-item.result c.loop-function-test.true c.function-item.is
    c.loop-function.first c.block_cases_beyond.result c.sooner-first.result _ c.loop-function.invariant (c.block_cases_beyond.ensures ∙ ap blocks_first c.as_slice.ensures) c.sooner-first.ensures

pub returns : goal.returns
returns c = all_told case_excess c.args.functions.now c.loop-function.function-index c.loop-function.first _ c.loop-function-test.false c.loop-function.invariant
