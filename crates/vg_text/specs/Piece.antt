-- Pieces of a text: what follows a prefix, and the first line.
use Rattle.std.specs.Prelude.{ℕ, Bool, true, not, ◌&&◌, ◌==◌, if◌then◌else◌, List, [], ◌∷◌, Option, Some, None}
use Rattle.std.specs.Option.{option_map}

-- what follows the prefix, where the text begins with it
unfoldable pub rest_after : List ℕ → List ℕ → Option (List ℕ)
rest_after [] text = Some text
rest_after (p ∷ prefix) [] = None
rest_after (p ∷ prefix) (c ∷ text) = if c == p then rest_after prefix text else None

-- the bytes before the first line feed, which is 10, and those behind it
unfoldable pub line_at : List ℕ → Option (List ℕ × List ℕ)
line_at [] = None
line_at (c ∷ text) = if c == 10 then Some ([], text) else option_map (λ split. (c ∷ split.0, split.1)) (line_at text)

-- no byte of the text is this one
abbrev pub lacks : ℕ → List ℕ → Bool
lacks byte [] = true
lacks byte (c ∷ text) = not (c == byte) && lacks byte text
