-- One thing more, and none left.
use Rattle.vg_ircheck.specs.Counts.{first_beyond, most_cases, case_numbers}
use Rattle.vg_ircheck.proofs.CountLemmas.{one_more, all_told}
use Rattle.vg_ircheck.proofs.counts.block_cases_beyond.Goals as goal
use Rattle.std.specs.Prelude.{List}
use Rattle.vg_ir.specs.declared.spot.Spot.{Spot}
use Rattle.vg_ir.specs.declared.block.Block.{Block}

-- the cases too many of a block
abbrev block_cases : Block → List Spot
block_cases b = first_beyond most_cases (case_numbers b.terminator)

pub loop-block-preserved : goal.loop-block-preserved
loop-block-preserved c =
    one_more block_cases c.args.blocks.now c.loop-block.block-index c.block-item.result c.loop-block-test.true c.block-item.is
    c.loop-block.first c.case_beyond.result c.sooner-first.result _ c.loop-block.invariant c.case_beyond.ensures c.sooner-first.ensures

pub returns : goal.returns
returns c = all_told block_cases c.args.blocks.now c.loop-block.block-index c.loop-block.first _ c.loop-block-test.false c.loop-block.invariant
