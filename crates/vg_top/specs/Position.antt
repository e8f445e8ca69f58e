-- The line and the column of a byte in a text, both from 1. A line feed ends its line. Columns are counted in bytes.
use Rattle.std.specs.Prelude.{ℕ, ◌+◌, nat_eq, List, [], ◌∷◌, if◌then◌else◌, zero, suc}

-- behind so many bytes of a text that begins at this line and column
abbrev pub position_from : ℕ → ℕ → ℕ → List ℕ → ℕ × ℕ
position_from line column zero text = (line, column)
position_from line column (suc n) [] = (line, column)
position_from line column (suc n) (c ∷ cs) =
    if nat_eq c 10 then position_from (line + 1) 1 n cs else position_from line (column + 1) n cs

abbrev pub position : List ℕ → ℕ → ℕ × ℕ
position text at = position_from 1 1 at text
