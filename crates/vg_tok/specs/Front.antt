-- What stands at the front of a text, as the code finds it.
use Rattle.std.specs.Prelude.{ℕ, ◌+◌, ◌^◌, Bool, true, false, not, ◌&&◌, ◌==◌, nat_lt, nat_le, if◌then◌else◌, List, [], ◌∷◌, length, take, drop, Option, Some, None}
use Rattle.std.specs.List.{prefix_len}
use Rattle.std.specs.Option.{option_map_or}
use Rattle.std.specs.Char.{is_digit}
use Rattle.vg_tok.specs.declared.number.Base.{Base}
use Rattle.vg_tok.specs.declared.number.Base.TheVariants.{Decimal, Hexadecimal, Binary}
use Rattle.vg_tok.specs.declared.lexeme.Lexeme.{Lexeme}
use Rattle.vg_tok.specs.declared.lexeme.Lexeme.TheVariants.{End, Gap, Name, Str, Number, Sign, Wide, RunOn, Open, Bad}
use Rattle.vg_tok.specs.Tables.{all_signs}
use Rattle.vg_tok.specs.Lexing.{is_white, may_start, may_continue, is_string_char, begins_with, entry_of, radix, prefix, value_from}

-- how far the digits of the base go, of which len characters are read; the rest stands at i, and `after`
-- says that a digit stands before it
abbrev pub digits_from : ℕ → ℕ → ℕ → Bool → List ℕ → ℕ
digits_from base i len after [] = len
digits_from base i len after (c ∷ cs) =
    if is_digit c base then digits_from base (i + 1) (i + 1) true cs
    else (if after && c == 39 then digits_from base (i + 1) len false cs else len)

abbrev pub digits_len : ℕ → List ℕ → ℕ
digits_len base cs = digits_from base 0 0 false cs

-- where the first `*/` ends, of a text at i, where `star` says that a `*` stands before it
abbrev pub close_from : ℕ → Bool → List ℕ → Option ℕ
close_from i star [] = None
close_from i star (c ∷ cs) = if star && c == 47 then Some (i + 1) else close_from (i + 1) (c == 42) cs

-- a base other than ten takes a first digit behind its prefix
abbrev pub base_at : List ℕ → Base
base_at [] = Decimal
base_at (c ∷ []) = Decimal
base_at (c ∷ d ∷ cs) =
    if (c == 48 && d == 120) && begins_with (λ e. is_digit e 16) cs then Hexadecimal
    else (if (c == 48 && d == 98) && begins_with (λ e. is_digit e 2) cs then Binary else Decimal)

-- the digits of a number, which a base and the text behind its prefix give
abbrev pub number_of : ℕ → ℕ → List ℕ → Lexeme
number_of base skip digits =
    if nat_le (2 ^ 128) (value_from base 0 (take (digits_len base digits) digits)) then Wide
    else (if begins_with may_continue (drop (digits_len base digits) digits) then RunOn (skip + digits_len base digits)
    else Number (value_from base 0 (take (digits_len base digits) digits)) (skip + digits_len base digits))

unfoldable pub number_at : List ℕ → Lexeme
number_at cs = number_of (radix (base_at cs)) (length (prefix (base_at cs))) (drop (length (prefix (base_at cs))) cs)

-- behind the opening quote
unfoldable pub string_at : List ℕ → Lexeme
string_at cs = if nat_lt 0 (prefix_len is_string_char cs) && begins_with (λ c. c == 34) (drop (prefix_len is_string_char cs) cs)
    then Str (prefix_len is_string_char cs + 2) else Bad

unfoldable pub sign_at : List ℕ → Lexeme
sign_at cs = option_map_or (λ s. Sign s (length (take 2 cs))) (entry_of all_signs (take 2 cs))
    (option_map_or (λ s. Sign s (length (take 1 cs))) (entry_of all_signs (take 1 cs)) Bad)

-- behind the `/*`
unfoldable pub block_at : List ℕ → Lexeme
block_at cs = option_map_or (λ n. Gap (n + 2)) (close_from 0 false cs) Open

unfoldable pub lexeme_at : List ℕ → Lexeme
lexeme_at [] = End
lexeme_at (c ∷ cs) =
    if is_white c then Gap 1
    else (if c == 47 && begins_with (λ d. d == 47) cs then Gap (prefix_len (λ d. not (d == 10)) (drop 1 cs) + 2)
    else (if c == 47 && begins_with (λ d. d == 42) cs then block_at (drop 1 cs)
    else (if may_start c then Name (prefix_len may_continue cs + 1)
    else (if is_digit c 10 then number_at (c ∷ cs)
    else (if c == 34 then string_at cs
    else sign_at (c ∷ cs))))))
