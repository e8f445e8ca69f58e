-- Lexemes with their bytes.
use Rattle.std.proofs.Common.{◌≡◌, ℕ, List, [], ◌∷◌, length}
use Rattle.std.proofs.lemmas.List.{length-map}
use Rattle.vg_irlex.specs.declared.lexeme.Lexeme.{Lexeme}
use Rattle.vg_irparse.specs.Placed.{placed}

pub length-placed : (text : List ℕ) (ls : List Lexeme) → length (placed text ls) ≡ length ls
length-placed text ls = length-map ls _

pub ruleset placed_steps = (length-placed)
