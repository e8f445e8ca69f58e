-- How a line of assembly is split into lexemes. A line is its bytes.
use Rattle.std.specs.Prelude.{ℕ, Bool, false, ◌||◌, ◌==◌, nat_lt, if◌then◌else◌, List, [], ◌∷◌}
use Rattle.std.specs.Int.{is_in_range}

-- a letter, a digit, `_`, `.`, `+`, `-`, or a byte above 127
abbrev pub is_word_byte : ℕ → Bool
is_word_byte c =
    (is_in_range 97 122 c || is_in_range 65 90 c) || is_in_range 48 57 c
    || ((c == 95 || c == 46) || (c == 43 || c == 45)) || nat_lt 127 c

-- a space or a tab, which only separate
abbrev pub is_blank : ℕ → Bool
is_blank c = c == 32 || c == 9

-- whether a text begins with a byte of a word
abbrev pub begins_word : List ℕ → Bool
begins_word [] = false
begins_word (c ∷ cs) = is_word_byte c

-- a byte in front of the first of some lexemes
abbrev pub in_front : ℕ → List (List ℕ) → List (List ℕ)
in_front c [] = (c ∷ []) ∷ []
in_front c (word ∷ others) = (c ∷ word) ∷ others

-- the lexemes of a text: each longest run of bytes of a word is one, every other byte but blanks is one by itself
abbrev pub lexemes : List ℕ → List (List ℕ)
lexemes [] = []
lexemes (c ∷ cs) =
    if is_blank c then lexemes cs
    else if is_word_byte c then (if begins_word cs then in_front c (lexemes cs) else (c ∷ []) ∷ lexemes cs)
    else (c ∷ []) ∷ lexemes cs
