-- It is found in one of them, or is behind all.
use Rattle.std.proofs.Common.{List, flat_map, ap, ◌∙◌}
use Rattle.vg_ir.specs.declared.block.Block.{Block}
use Rattle.vg_ircheck.specs.Seeking.{sought}
use Rattle.vg_ircheck.specs.Counts.{block_words, function_words}
use Rattle.vg_ircheck.proofs.SeekingLemmas.{found_in, left_in, left_all}
use Rattle.vg_ircheck.proofs.words.module_word.Goals as goal

pub returns-in-Found : goal.returns-in-Found
returns-in-Found c =
    found_in function_words c.args.functions.now c.loop-function.function-index c.function-item.result c.loop-function-test.true c.function-item.is
    c.loop-function.left _ c.function_word.result c.in-Found.at c.loop-function.invariant (c.function_word.ensures ∙ ap (λ (bs : List Block). sought c.loop-function.left (flat_map block_words bs)) c.as_slice.ensures) c.in-Found.is

pub loop-function-preserved : goal.loop-function-preserved
loop-function-preserved c =
    left_in function_words c.args.functions.now c.loop-function.function-index c.function-item.result c.loop-function-test.true c.function-item.is
    c.loop-function.left c.in-Left.behind _ c.function_word.result c.loop-function.invariant (c.function_word.ensures ∙ ap (λ (bs : List Block). sought c.loop-function.left (flat_map block_words bs)) c.as_slice.ensures) c.in-Left.is

pub returns : goal.returns
returns c = left_all function_words c.args.functions.now c.loop-function.function-index c.loop-function.left _ c.loop-function-test.false c.loop-function.invariant
