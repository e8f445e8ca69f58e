-- Kinds of lexemes by their bytes, and sets of kinds that have no lexeme in common.
use Rattle.std.specs.Prelude.{ℕ, Bool, true, false, not, ◌&&◌, ◌||◌, nat_lt, nat_le, if◌then◌else◌, List, [], ◌∷◌, map}
use Rattle.std.specs.List.{list_all}
use Rattle.vg_irlex.specs.Lexing.{are_digits, is_c_quoted}
use Rattle.vg_irparse.specs.Text.{is_local, is_global, is_group, is_number, is_label}
use Rattle.vg_irparse.specs.Words.{is_one_of}

pub data Kind : Type 0 where
  words : List (List ℕ) → Kind
  c_quoted : Kind
  local : Kind
  global : Kind
  group : Kind
  digits : Kind
  number : Kind
  label : Kind
  -- any lexeme but these
  others : List (List ℕ) → Kind

abbrev pub is_of : Kind → List ℕ → Bool
is_of (words ws) text = is_one_of ws text
is_of c_quoted text = is_c_quoted text
is_of local text = is_local text
is_of global text = is_global text
is_of group text = is_group text
is_of digits text = are_digits text
is_of number text = is_number text
is_of label text = is_label text
is_of (others ws) text = not (is_one_of ws text)

-- a lexeme of one of these kinds
abbrev pub is_in : List Kind → List ℕ → Bool
is_in [] text = false
is_in (k ∷ ks) text = if is_of k text then true else is_in ks text

-- ---- kinds that have no lexeme in common

-- the first byte of a text
abbrev pub head : List ℕ → ℕ
head [] = 0
head (c ∷ cs) = c

-- a byte from the first to the last of a range
abbrev pub is_within : ℕ × ℕ → ℕ → Bool
is_within range c = nat_le range.0 c && nat_le c range.1

abbrev pub is_among : List (ℕ × ℕ) → ℕ → Bool
is_among [] c = false
is_among (range ∷ ranges) c = if is_within range c then true else is_among ranges c

-- one byte
abbrev pub byte : ℕ → ℕ × ℕ
byte c = (c, c)

-- the bytes that a lexeme of a kind may begin with: `%` is 37, `@` 64, `#` 35, `-` 45, `$` 36, `.` 46, `_` 95, `"` 34, `c` 99
abbrev pub heads : Kind → List (ℕ × ℕ)
heads (words ws) = map (λ w. byte (head w)) ws
heads c_quoted = byte 99 ∷ []
heads local = byte 37 ∷ []
heads global = byte 64 ∷ []
heads group = byte 35 ∷ []
heads digits = (48, 57) ∷ []
heads number = byte 45 ∷ (48, 57) ∷ []
heads label = (48, 57) ∷ (65, 90) ∷ (97, 122) ∷ byte 45 ∷ byte 36 ∷ byte 46 ∷ byte 95 ∷ byte 34 ∷ []
heads (others ws) = []

-- a kind is known by its first bytes
abbrev pub has_heads : Kind → Bool
has_heads (words ws) = true
has_heads c_quoted = true
has_heads local = true
has_heads global = true
has_heads group = true
has_heads digits = true
has_heads number = true
has_heads label = true
has_heads (others ws) = false

-- no byte is in both
abbrev pub are_apart : ℕ × ℕ → ℕ × ℕ → Bool
are_apart a b = nat_lt a.1 b.0 || nat_lt b.1 a.0

abbrev pub heads_apart : List (ℕ × ℕ) → List (ℕ × ℕ) → Bool
heads_apart zs bs = list_all (λ a. list_all (are_apart a) bs) zs

abbrev pub words_apart : List (List ℕ) → Kind → Bool
words_apart ws (words vs) = list_all (λ w. not (is_one_of vs w)) ws
words_apart ws c_quoted = heads_apart (heads (words ws)) (heads c_quoted)
words_apart ws local = heads_apart (heads (words ws)) (heads local)
words_apart ws global = heads_apart (heads (words ws)) (heads global)
words_apart ws group = heads_apart (heads (words ws)) (heads group)
words_apart ws digits = heads_apart (heads (words ws)) (heads digits)
words_apart ws number = heads_apart (heads (words ws)) (heads number)
words_apart ws label = heads_apart (heads (words ws)) (heads label)
words_apart ws (others vs) = list_all (is_one_of vs) ws

-- so all words of the kind are these
abbrev pub others_apart : List (List ℕ) → Kind → Bool
others_apart vs (words ws) = list_all (is_one_of vs) ws
others_apart vs _ = false

abbrev pub kinds_apart : Kind → Kind → Bool
kinds_apart (words ws) b = words_apart ws b
kinds_apart c_quoted b = has_heads b && heads_apart (heads c_quoted) (heads b)
kinds_apart local b = has_heads b && heads_apart (heads local) (heads b)
kinds_apart global b = has_heads b && heads_apart (heads global) (heads b)
kinds_apart group b = has_heads b && heads_apart (heads group) (heads b)
kinds_apart digits b = has_heads b && heads_apart (heads digits) (heads b)
kinds_apart number b = has_heads b && heads_apart (heads number) (heads b)
kinds_apart label b = has_heads b && heads_apart (heads label) (heads b)
kinds_apart (others vs) b = others_apart vs b

-- no kind of the one set has a lexeme in common with a kind of the other
abbrev pub apart : List Kind → List Kind → Bool
apart zs bs = list_all (λ a. list_all (kinds_apart a) bs) zs
