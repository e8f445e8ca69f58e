use Rattle.std.proofs.Common.{ap, sym, ◌∙◌}
use Rattle.vg_grammar.specs.Line.{ends_word}
use Rattle.vg_asm.proofs.Joining.{ends_word-last}
use Rattle.vg_asm.proofs.touching.ends_word.Goals as goal

pub returns-in-Some : goal.returns-in-Some
returns-in-Some c = c.is_word_byte.ensures ∙ sym (ap ends_word c.in-Some.ensures.cases.0 ∙ ends_word-last c.in-Some.field-0-1.now c.in-Some.last.now)
