-- By what is found at the front of the text.
use Rattle.vg_irlex.proofs.Found.{gap_found, lexeme_found}
use Rattle.vg_irlex.proofs.lexer.element_at.Goals as goal

pub returns-in-Gap : goal.returns-in-Gap
returns-in-Gap c = gap_found _ _ _ _ c.in-Some.ensures.cases.0 c.in-Gap.ensures

pub returns-in-Lexeme : goal.returns-in-Lexeme
returns-in-Lexeme c = lexeme_found _ _ _ _ c.in-Some.ensures.cases.0 c.in-Lexeme.ensures
