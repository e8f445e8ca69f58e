-- what is left is sought in what is left
use Rattle.std.specs.Prelude.{◌≡◌, drop, flat_map}
use Rattle.vg_ircheck.specs.Seeking.{sought}
use Rattle.vg_ircheck.specs.Counts.{function_words}
use Rattle.vg_ircheck.proofs.words.module_word.Given as goal

abbrev pub invariant-loop-function : goal.invariant-loop-function
invariant-loop-function l = sought l.left (flat_map function_words (drop l.function-index l.functions)) ≡ sought l.number (flat_map function_words l.functions)
