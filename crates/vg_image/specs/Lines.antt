-- The lines of a text.
use Rattle.std.specs.Prelude.{ℕ, Bool, false, ◌==◌, List, [], ◌∷◌, ◌++◌, if◌then◌else◌}

-- a byte in front of the first line; where there is none it is a line
abbrev pub led_by : ℕ → List (List ℕ) → List (List ℕ)
led_by c [] = (c ∷ []) ∷ []
led_by c (line ∷ lines) = (c ∷ line) ∷ lines

-- What stands between line feeds, which are 10. A rest behind the last of them is a line where it isn't empty.
unfoldable pub lines_of : List ℕ → List (List ℕ)
lines_of [] = []
lines_of (c ∷ text) = if c == 10 then [] ∷ lines_of text else led_by c (lines_of text)

-- a line with its line feed
abbrev pub ended_line : List ℕ → List ℕ
ended_line line = line ++ 10 ∷ []

-- the last byte of a text is a line feed
unfoldable pub ends_with_feed : List ℕ → Bool
ends_with_feed [] = false
ends_with_feed (c ∷ []) = c == 10
ends_with_feed (c ∷ e ∷ text) = ends_with_feed (e ∷ text)
