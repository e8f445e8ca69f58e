-- The first too many is the one of that number.
use Rattle.std.proofs.Common.{flat_map, sym, ◌∙◌}
use Rattle.vg_ircheck.specs.Counts.{function_words}
use Rattle.vg_ircheck.proofs.SeekingLemmas.{first_found, none_found}
use Rattle.vg_ircheck.proofs.words.instruction_beyond.Goals as goal

pub returns-in-Found : goal.returns-in-Found
returns-in-Found c = first_found 262144 (flat_map function_words c.args.functions.now) c.in-Found.at (sym c.in-Found.is ∙ c.module_word.ensures)

pub returns-in-Left : goal.returns-in-Left
returns-in-Left c = none_found 262144 _ (flat_map function_words c.args.functions.now) (sym c.in-Left.is ∙ c.module_word.ensures)
