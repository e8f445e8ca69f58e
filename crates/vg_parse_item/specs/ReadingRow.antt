-- Reading rows from the front of a list of tokens: one or more of a kind, with commas between them.
use Rattle.std.specs.Prelude.{ℕ, zero, suc, List, [], ◌∷◌, ◌++◌, length, Option, Some, None, if◌then◌else◌}
use Rattle.vg_tok.specs.declared.sign.Sign.{Sign}
use Rattle.vg_tok.specs.declared.sign.Sign.TheVariants as signs
use Rattle.vg_ast.specs.Placed.{Placed}
use Rattle.vg_parse_expr.specs.Lexeme.{◌>>=◌, begins_with, sign_at}

-- what the tokens begin with, and the tokens behind it
abbrev pub Reader : Type 0 → Type 0
Reader X = List Placed → Option (X × List Placed)

-- A row from one that must come on: those in front are read. The fuel is at least the number of tokens.
unfoldable pub row_from : {X : Type 0} → Reader X → ℕ → List X → Reader (List X)
row_from read zero front ts = None
row_from read (suc fuel) front ts =
    read ts >>= λ found.
    if begins_with signs.Comma found.1
    then (sign_at signs.Comma found.1 >>= λ comma. row_from read fuel (front ++ found.0 ∷ []) comma.1)
    else Some (front ++ found.0 ∷ [], found.1)

-- a row that the tokens begin with
unfoldable pub row_at : {X : Type 0} → Reader X → Reader (List X)
row_at read ts = row_from read (length ts) [] ts

-- a row, or nothing where the sign that closes it is next
unfoldable pub optional_row_at : {X : Type 0} → Sign → Reader X → Reader (List X)
optional_row_at closing read ts = if begins_with closing ts then Some ([], ts) else row_at read ts
