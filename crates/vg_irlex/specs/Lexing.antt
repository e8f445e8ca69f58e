-- Which lexemes a text of LLVM IR has. A text is a list of bytes.
use Rattle.std.specs.Prelude.{◌≡◌, ◌⊎◌, ℕ, ◌+◌, Bool, true, false, not, ◌&&◌, ◌||◌, ◌==◌, if◌then◌else◌, IsTrue, List, [], ◌∷◌, ◌++◌, length}
use Rattle.std.specs.List.{list_all}
use Rattle.std.specs.Char.{is_ascii_alphabetic, is_ascii_digit}
use Rattle.vg_irlex.specs.declared.lexeme.Lexeme.{Lexeme}

-- ---- bytes

-- space, tab, carriage return and line feed
abbrev pub is_white : ℕ → Bool
is_white c = (c == 32 || c == 9) || (c == 13 || c == 10)

-- what a name may begin with, behind its `%` or `@`: letters, `-`, `$`, `.` and `_`
abbrev pub may_start_name : ℕ → Bool
may_start_name c = is_ascii_alphabetic c || ((c == 45 || c == 36) || (c == 46 || c == 95))

-- what a name may go on with: digits too
abbrev pub may_continue_name : ℕ → Bool
may_continue_name c = may_start_name c || is_ascii_digit c

-- the bytes of words and numbers: `#` (35) too
abbrev pub is_run_byte : ℕ → Bool
is_run_byte c = may_continue_name c || c == 35

-- whether a text has no byte
abbrev pub is_nil : List ℕ → Bool
is_nil [] = true
is_nil (c ∷ cs) = false

-- ---- the spellings of a lexeme

-- what stands behind an opening quote: bytes up to the first `"` (34), which ends them
abbrev pub ends_quote : List ℕ → Bool
ends_quote [] = false
ends_quote (c ∷ cs) = if c == 34 then is_nil cs else ends_quote cs

-- a quoted text
abbrev pub is_quoted : List ℕ → Bool
is_quoted [] = false
is_quoted (c ∷ cs) = c == 34 && ends_quote cs

-- a quoted text with a `c` (99) that stands directly before it
abbrev pub is_c_quoted : List ℕ → Bool
is_c_quoted [] = false
is_c_quoted (c ∷ cs) = c == 99 && is_quoted cs

-- a name that is a word
abbrev pub is_word_name : List ℕ → Bool
is_word_name [] = false
is_word_name (c ∷ cs) = may_start_name c && list_all may_continue_name cs

-- one or more digits
abbrev pub are_digits : List ℕ → Bool
are_digits [] = false
are_digits (c ∷ cs) = is_ascii_digit c && list_all is_ascii_digit cs

-- what stands behind the `%` (37) or `@` (64) of a name: a word, digits or a quoted text
abbrev pub is_bare_name : List ℕ → Bool
is_bare_name cs = (is_word_name cs || are_digits cs) || is_quoted cs

-- a name with the `%` (37) or `@` (64) that it begins with
abbrev pub is_name : List ℕ → Bool
is_name [] = false
is_name (c ∷ cs) = (c == 37 || c == 64) && is_bare_name cs

-- letters, digits and `-`, `$`, `.`, `_`, `#`
abbrev pub is_run : List ℕ → Bool
is_run [] = false
is_run (c ∷ cs) = is_run_byte c && list_all is_run_byte cs

-- one byte that isn't white space and begins no comment (59)
abbrev pub is_single : List ℕ → Bool
is_single [] = false
is_single (c ∷ cs) = is_nil cs && not (is_white c || c == 59)

-- the text is a spelling of a lexeme
abbrev pub is_lexeme : List ℕ → Bool
is_lexeme text = ((is_name text || is_quoted text) || is_c_quoted text) || (is_run text || is_single text)

-- ---- a text as a row of lexemes and what stands between them

-- A lexeme stands at the text where rest follows it: no longer front of the text ahead is a spelling of one. So a name, a
-- quoted text and a run go before the one byte that they begin with, which stands for itself where they don't go on.
pub record IsLexeme (text rest : List ℕ) : Type 0 where
  pub spells : IsTrue (is_lexeme text)
  pub longest : (more others : List ℕ) → rest ≡ more ++ others → IsTrue (is_lexeme (text ++ more)) → more ≡ []

-- whether the line ends where this text begins
abbrev pub ends_line : List ℕ → Bool
ends_line [] = true
ends_line (c ∷ cs) = c == 10

-- one byte of white space
abbrev pub IsWhite : List ℕ → Type 0
IsWhite text = (c : ℕ) × (text ≡ c ∷ []) × IsTrue (is_white c)

-- `;` and what follows up to the line feed, or to the end of the text
abbrev pub IsComment : List ℕ → List ℕ → Type 0
IsComment text rest = (body : List ℕ) × (text ≡ 59 ∷ body) × IsTrue (list_all (λ c. not (c == 10)) body) × IsTrue (ends_line rest)

-- the text stands between lexemes where rest follows it
abbrev pub IsGap : List ℕ → List ℕ → Type 0
IsGap text rest = IsWhite text ⊎ IsComment text rest

-- a piece of a text, and whether it is a lexeme
pub record Element : Type 0 where
  pub text : List ℕ
  pub is_lexeme : Bool

-- the element stands where rest follows it
abbrev pub IsPlacedAs : Bool → List ℕ → List ℕ → Type 0
IsPlacedAs true text rest = IsLexeme text rest
IsPlacedAs false text rest = IsGap text rest

-- the bytes of the elements
abbrev pub spelled : List Element → List ℕ
spelled [] = []
spelled (e ∷ es) = e.text ++ spelled es

-- the elements stand in a row where rest follows them
abbrev pub AreElements : List Element → List ℕ → Type 0
AreElements [] rest = Unit {0}
AreElements (e ∷ es) rest = IsPlacedAs e.is_lexeme e.text (spelled es ++ rest) × AreElements es rest

-- whether an element between lexemes is a line feed (10)
abbrev pub is_line_feed : List ℕ → Bool
is_line_feed [] = false
is_line_feed (c ∷ cs) = c == 10

-- the lexeme that an element is
abbrev pub placed : Bool → ℕ → ℕ → Bool → List Lexeme
placed true start end fresh = record { start = start; end = end; fresh = fresh } ∷ []
placed false start end fresh = []

-- whether the next lexeme is the first on its line, where the one that is to stand here would be so or not
abbrev pub fresh_behind : Bool → Element → Bool
fresh_behind fresh e = if e.is_lexeme then false else (fresh || is_line_feed e.text)

-- The lexemes among the elements, where the first element begins at the byte `at`. `fresh` says that no lexeme stands
-- before it on its line: a line feed stands between it and the lexeme before, or there is none before.
abbrev pub lexemes_of : ℕ → Bool → List Element → List Lexeme
lexemes_of at fresh [] = []
lexemes_of at fresh (e ∷ es) =
    placed e.is_lexeme at (at + length e.text) fresh ++ lexemes_of (at + length e.text) (fresh_behind fresh e) es

-- the text has these lexemes
abbrev pub Lexes : List ℕ → List Lexeme → Type 0
Lexes text lexemes = (es : List Element) × (text ≡ spelled es) × AreElements es [] × (lexemes ≡ lexemes_of 0 true es)
