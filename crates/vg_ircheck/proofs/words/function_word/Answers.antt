-- It is found in one of them, or is behind all.
use Rattle.vg_ircheck.specs.Counts.{block_words}
use Rattle.vg_ircheck.proofs.SeekingLemmas.{found_in, left_in, left_all}
use Rattle.vg_ircheck.proofs.words.function_word.Goals as goal

pub returns-in-Found : goal.returns-in-Found
returns-in-Found c =
    found_in block_words c.args.blocks.now c.loop-block.block-index c.block-item.result c.loop-block-test.true c.block-item.is
    c.loop-block.left _ c.block_word.result c.in-Found.at c.loop-block.invariant c.block_word.ensures c.in-Found.is

pub loop-block-preserved : goal.loop-block-preserved
loop-block-preserved c =
    left_in block_words c.args.blocks.now c.loop-block.block-index c.block-item.result c.loop-block-test.true c.block-item.is
    c.loop-block.left c.in-Left.behind _ c.block_word.result c.loop-block.invariant c.block_word.ensures c.in-Left.is

pub returns : goal.returns
returns c = left_all block_words c.args.blocks.now c.loop-block.block-index c.loop-block.left _ c.loop-block-test.false c.loop-block.invariant
