-- what is left is sought in what is left
use Rattle.std.specs.Prelude.{◌≡◌, drop, flat_map}
use Rattle.vg_ircheck.specs.Seeking.{sought}
use Rattle.vg_ircheck.specs.Counts.{block_words}
use Rattle.vg_ircheck.proofs.words.function_word.Given as goal

abbrev pub invariant-loop-block : goal.invariant-loop-block
invariant-loop-block l = sought l.left (flat_map block_words (drop l.block-index l.blocks)) ≡ sought l.number (flat_map block_words l.blocks)
