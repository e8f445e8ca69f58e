-- Facts that the code's functions use.
use Rattle.std.proofs.Common.{◌≡◌, ℕ, List, length}
use Rattle.std.proofs.lemmas.List.{length-map}
use Rattle.vg_irlex.specs.declared.lexeme.Lexeme.{Lexeme}
use Rattle.vg_irparse.specs.Placed.{placed}

pub length-placed : (text : List ℕ) (ls : List Lexeme) → length (placed text ls) ≡ length ls
length-placed text ls = length-map ls _

pub ruleset code_steps = (length-placed)
