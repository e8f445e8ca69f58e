-- What stands at the front of a text, as the code finds it.
use Rattle.std.specs.Prelude.{◌≡◌, ℕ, ◌+◌, ◌<◌, ◌++◌, Bool, false, not, ◌&&◌, ◌||◌, ◌==◌, nat_lt, List, [], ◌∷◌, length, drop, if◌then◌else◌}
use Rattle.std.specs.List.{prefix_len}
use Rattle.std.specs.Char.{is_ascii_digit}
use Rattle.vg_irlex.specs.declared.front.Front.{Front}
use Rattle.vg_irlex.specs.declared.front.Front.TheVariants.{Gap, Lexeme}
use Rattle.vg_irlex.specs.Lexing.{is_white, may_start_name, may_continue_name, is_run_byte, IsPlacedAs}

-- whether a text begins with this byte
abbrev pub begins_with : ℕ → List ℕ → Bool
begins_with c [] = false
begins_with c (d ∷ ds) = d == c

-- how many bytes a quoted text has whose opening quote stands before this text, and 0 where no quote ends it
unfoldable pub quoted_len : List ℕ → ℕ
quoted_len cs = if nat_lt (prefix_len (λ c. not (c == 34)) cs) (length cs) then (prefix_len (λ c. not (c == 34)) cs + 2) else 0

-- how many bytes of this text belong to a name whose `%` or `@` stands before it
unfoldable pub bare_name_len : List ℕ → ℕ
bare_name_len [] = 0
bare_name_len (c ∷ cs) =
    if may_start_name c then (prefix_len may_continue_name cs + 1)
    else (if is_ascii_digit c then (prefix_len is_ascii_digit cs + 1)
    else (if c == 34 then quoted_len cs else 0))

-- a lexeme that begins with a quote and goes on with this text
unfoldable pub behind_quote : List ℕ → ℕ
behind_quote cs = if nat_lt 0 (quoted_len cs) then quoted_len cs else 1

-- a lexeme that begins with a `c` and goes on with this text
unfoldable pub behind_c : List ℕ → ℕ
behind_c cs =
    if begins_with 34 cs && nat_lt 0 (quoted_len (drop 1 cs)) then (quoted_len (drop 1 cs) + 1)
    else (prefix_len is_run_byte cs + 1)

-- a lexeme that begins with this byte and goes on with this text
unfoldable pub lexeme_len : ℕ → List ℕ → ℕ
lexeme_len c cs =
    if c == 37 || c == 64 then (bare_name_len cs + 1)
    else (if c == 34 then behind_quote cs
    else (if c == 99 then behind_c cs
    else (if is_run_byte c then (prefix_len is_run_byte cs + 1) else 1)))

-- what stands at the front of a text that has this first byte
unfoldable pub front_of : ℕ → List ℕ → Front
front_of c cs =
    if is_white c then Gap 1
    else (if c == 59 then Gap (prefix_len (λ d. not (d == 10)) cs + 1)
    else Lexeme (lexeme_len c cs))

-- an element stands at the front of the text, and so many bytes are its text
pub record Begins (cs : List ℕ) (lexeme : Bool) (len : ℕ) : Type 0 where
  pub text : List ℕ
  pub rest : List ℕ
  pub whole : cs ≡ text ++ rest
  pub len_is : length text ≡ len
  pub some : 0 < len
  pub placed : IsPlacedAs lexeme text rest
