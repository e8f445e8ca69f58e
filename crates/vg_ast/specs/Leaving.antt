-- Where a text that is no description leaves the grammar.
use Rattle.std.specs.Prelude.{◌≡◌, ◌⊎◌, ℕ, List, [], ◌∷◌, ◌++◌}
use Rattle.vg_tok.specs.declared.token.Token.{Token}
use Rattle.vg_ast.specs.Placed.{Placed, placed}
use Rattle.vg_ast.specs.Description.{IsDescription}
use Rattle.vg_ast.specs.Piece.{pieces}

-- some description has these as its first pieces
abbrev pub BeginDescription : List (List Placed) → Type 0
BeginDescription front = (ts : List Placed) × (behind : List (List Placed)) × IsDescription ts × (pieces ts ≡ front ++ behind)

-- the first token of a piece stands at this place
abbrev pub BeginsAt : List Placed → ℕ → Type 0
BeginsAt piece at = (t : Placed) × (ts : List Placed) × (piece ≡ t ∷ ts) × (at ≡ t.at)

-- the pieces before this one begin a description, and with it they don't
abbrev pub IsFirstWrong : List Placed → List Placed → Type 0
IsFirstWrong ts piece = (front : List (List Placed)) × (behind : List (List Placed))
    × (pieces ts ≡ front ++ piece ∷ behind) × BeginDescription front × ¬ BeginDescription (front ++ piece ∷ [])

-- the end of the last token, or the start of the text where it has none
abbrev pub end_from : ℕ → List Token → ℕ
end_from at [] = at
end_from at (t ∷ ts) = end_from t.end ts

abbrev pub end_of : List Token → ℕ
end_of ts = end_from 0 ts

-- The tokens are no description, and leave the grammar at this place: at the first token of the first piece such that
-- the pieces up to and with it don't begin a description; or, where there is no such piece, at the end of the last token.
pub record LeavesAt (tokens : List Token) (at : ℕ) : Type 0 where
  pub none : ¬ IsDescription (placed tokens)
  pub place : ((piece : List Placed) × IsFirstWrong (placed tokens) piece × BeginsAt piece at)
      ⊎ (BeginDescription (pieces (placed tokens)) × (at ≡ end_of tokens))
