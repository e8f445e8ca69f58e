-- Cutting tokens into pieces, one after another.
use Rattle.std.specs.Prelude.{◌≡◌, ℕ, ◌+◌, ◌<◌, ◌≤◌, true, List, ◌∷◌, length, take, drop}
use Rattle.vg_tok.specs.declared.token.Token.{Token}
use Rattle.vg_ast.specs.Placed.{Placed, placed}
use Rattle.vg_ast.specs.Piece.{cut}
use Rattle.vg_ast.specs.Piece as piece
use Rattle.vg_parse.specs.declared.cutting.Depths.{Depths}

-- the counts of the code, as those of the definition of pieces
abbrev pub depths_of : Depths → piece.Depths
depths_of d = record { braces = d.braces; parentheses = d.parentheses }

-- the pieces of tokens with the first of which a piece begins, where so much is open before them
abbrev pub pieces_from : Depths → List Token → List (List Placed)
pieces_from depths tokens = (cut (depths_of depths) true (placed tokens)).1

-- the first piece has so many tokens, and so much is open behind it
pub record IsFrontPiece (tokens : List Token) (before : Depths) (len : ℕ) (behind : Depths) : Type 0 where
  pub some : 0 < len
  pub within : len ≤ length tokens
  pub first : pieces_from before tokens ≡ placed (take len tokens) ∷ pieces_from behind (drop len tokens)

-- no more is open than tokens stand before
pub record FitsBehind (depths : Depths) (tokens : List Token) (bound : ℕ) : Type 0 where
  pub braces : depths.braces + length tokens ≤ bound
  pub parentheses : depths.parentheses + length tokens ≤ bound
