-- Which tokens a text has, and which is its first fault.
use Rattle.std.specs.Prelude.{◌≡◌, ◌≢◌, ◌⊎◌, ℕ, ◌+◌, ◌*◌, ◌^◌, ◌<◌, ◌≤◌, Bool, true, false, not, ◌&&◌, ◌||◌, ◌==◌, if◌then◌else◌, IsTrue, List, [], ◌∷◌, ◌++◌, length, Option, Some, None, MatchOption, codes}
use Rattle.std.specs.List.{list_all}
use Rattle.std.specs.Int.{is_in_range}
use Rattle.std.specs.Char.{is_digit, digit_value}
use Rattle.std.specs.Str.{encode_utf8_all, all_scalars, StartsWithNoChar}
use Rattle.unicode_ident.specs.Ident.{is_xid_start, is_xid_continue}
use Rattle.vg_tok.specs.declared.token.Kind.{Kind}
use Rattle.vg_tok.specs.declared.token.Kind.TheVariants as kinds
use Rattle.vg_tok.specs.declared.token.Token.{Token}
use Rattle.vg_tok.specs.declared.fault.TokFault.{TokFault}
use Rattle.vg_tok.specs.declared.fault.TokFault.TheVariants as faults
use Rattle.vg_tok.specs.declared.number.Base.{Base}
use Rattle.vg_tok.specs.declared.number.Base.TheVariants.{Decimal, Hexadecimal, Binary}
use Rattle.vg_tok.specs.Tables.{reserved_words, all_signs}

-- Characters, by their codes.

-- space, tab, carriage return and line feed
abbrev pub is_white : ℕ → Bool
is_white c = (c == 32 || c == 9) || (c == 13 || c == 10)

-- what a name may begin with: `_` and XID_Start
abbrev pub may_start : ℕ → Bool
may_start c = c == 95 || is_xid_start c

-- what a name may go on with: XID_Continue, which has `_`
abbrev pub may_continue : ℕ → Bool
may_continue c = is_xid_continue c

-- what may stand in a string: 0x20 to 0x7E but for `"`, `\`, `;` and `:`
abbrev pub is_string_char : ℕ → Bool
is_string_char c = is_in_range 0x20 0x7E c && not ((c == 34 || c == 92) || (c == 59 || c == 58))

-- whether a text begins with a character that passes the test
abbrev pub begins_with : (ℕ → Bool) → List ℕ → Bool
begins_with p [] = false
begins_with p (c ∷ cs) = p c

-- The spellings of a token.

abbrev pub same_text : List ℕ → List ℕ → Bool
same_text [] [] = true
same_text [] (d ∷ ds) = false
same_text (c ∷ cs) [] = false
same_text (c ∷ cs) (d ∷ ds) = c == d && same_text cs ds

-- what a table has under a spelling
abbrev pub entry_of : {X : Type 0} → List (List ℕ × X) → List ℕ → Option X
entry_of [] text = None
entry_of (e ∷ es) text = if same_text e.0 text then Some e.1 else entry_of es text

abbrev pub is_name : List ℕ → Bool
is_name [] = false
is_name (c ∷ cs) = may_start c && list_all may_continue cs

abbrev pub radix : Base → ℕ
radix Decimal = 10
radix Hexadecimal = 16
radix Binary = 2

abbrev pub prefix : Base → List ℕ
prefix Decimal = []
prefix Hexadecimal = codes "0x"
prefix Binary = codes "0b"

-- digits that go on a number: a single `'` (39) may stand before each
abbrev pub go_on : ℕ → List ℕ → Bool
go_on base [] = true
go_on base (c ∷ []) = is_digit c base
go_on base (c ∷ d ∷ cs) = if c == 39 then is_digit d base && go_on base cs else is_digit c base && go_on base (d ∷ cs)

-- one or more digits; a single `'` may stand between two of them
abbrev pub are_digits : ℕ → List ℕ → Bool
are_digits base [] = false
are_digits base (c ∷ cs) = is_digit c base && go_on base cs

-- the number that begins with the digits of n and goes on with these; a `'` means nothing
abbrev pub value_from : ℕ → ℕ → List ℕ → ℕ
value_from base n [] = n
value_from base n (c ∷ cs) = if c == 39 then value_from base n cs else value_from base (n * base + digit_value c) cs

abbrev pub IsNumber : ℕ → List ℕ → Type 0
IsNumber n text = (b : Base) × (digits : List ℕ) × (text ≡ prefix b ++ digits)
    × IsTrue (are_digits (radix b) digits) × (n ≡ value_from (radix b) 0 digits)

-- the text is a spelling of the token; `"` is 34
abbrev pub Spells : Kind → List ℕ → Type 0
Spells (kinds.Name cs) text = (text ≡ cs) × IsTrue (is_name text) × (entry_of reserved_words text ≡ None)
Spells (kinds.Str cs) text = (text ≡ 34 ∷ (cs ++ 34 ∷ [])) × (cs ≢ []) × IsTrue (list_all is_string_char cs)
Spells (kinds.Number n) text = IsNumber n text
Spells (kinds.Sign s) text = entry_of all_signs text ≡ Some s
Spells (kinds.Word w) text = entry_of reserved_words text ≡ Some w

-- What stands between tokens.

-- whether a text begins with `//` or `/*`
abbrev pub begins_comment : List ℕ → Bool
begins_comment [] = false
begins_comment (c ∷ []) = false
begins_comment (c ∷ d ∷ cs) = c == 47 && (d == 47 || d == 42)

-- whether a `*/` stands in a text
abbrev pub has_close : List ℕ → Bool
has_close [] = false
has_close (c ∷ []) = false
has_close (c ∷ d ∷ cs) = (c == 42 && d == 47) || has_close (d ∷ cs)

-- whether the line ends where this text begins
abbrev pub ends_line : List ℕ → Bool
ends_line [] = true
ends_line (c ∷ cs) = c == 10

-- `//` and what follows up to the end of the line
abbrev pub IsLineComment : List ℕ → List ℕ → Type 0
IsLineComment text rest = (body : List ℕ) × (text ≡ codes "//" ++ body)
    × IsTrue (list_all (λ c. not (c == 10)) body) × IsTrue (ends_line rest)

-- `/*` and what follows up to the first `*/`
abbrev pub IsBlockComment : List ℕ → Type 0
IsBlockComment text = (body : List ℕ) × (text ≡ codes "/*" ++ (body ++ codes "*/")) × (has_close (body ++ codes "*") ≡ false)

abbrev pub IsWhite : List ℕ → Type 0
IsWhite text = (c : ℕ) × (text ≡ c ∷ []) × IsTrue (is_white c)

-- the text stands between tokens where rest follows it
abbrev pub IsGap : List ℕ → List ℕ → Type 0
IsGap text rest = IsWhite text ⊎ (IsLineComment text rest ⊎ IsBlockComment text)

-- Tokens in their place.

-- the text is a spelling of the token, no longer front of the text ahead is one of any token, and no
-- comment begins there
pub record IsLongest (k : Kind) (text rest : List ℕ) : Type 0 where
  pub spells : Spells k text
  pub longest : (more others : List ℕ) (j : Kind) → rest ≡ more ++ others → Spells j (text ++ more) → more ≡ []
  pub no_comment : begins_comment (text ++ rest) ≡ false

-- a number is below 2 ^ 128, and no character that may go on a name follows it
abbrev pub IsFit : Kind → List ℕ → Type 0
IsFit (kinds.Name cs) rest = Unit {0}
IsFit (kinds.Str cs) rest = Unit {0}
IsFit (kinds.Number n) rest = (n < 2 ^ 128) × (begins_with may_continue rest ≡ false)
IsFit (kinds.Sign s) rest = Unit {0}
IsFit (kinds.Word w) rest = Unit {0}

-- the token stands at the text where rest follows it
abbrev pub IsToken : Kind → List ℕ → List ℕ → Type 0
IsToken k text rest = IsLongest k text rest × IsFit k rest

-- A text is a row of elements: tokens, and what stands between them.
pub record Element : Type 0 where
  pub text : List ℕ
  pub kind : Option Kind

abbrev pub IsElement : Element → List ℕ → Type 0
IsElement e rest = MatchOption e.kind (IsGap e.text rest) (λ k. IsToken k e.text rest)

-- the characters of the elements
abbrev pub spelled : List Element → List ℕ
spelled [] = []
spelled (e ∷ es) = e.text ++ spelled es

-- the elements stand in a row where rest follows them
abbrev pub AreElements : List Element → List ℕ → Type 0
AreElements [] rest = Unit {0}
AreElements (e ∷ es) rest = IsElement e (spelled es ++ rest) × AreElements es rest

-- how many bytes the characters take
abbrev pub byte_len : List ℕ → ℕ
byte_len cs = length (encode_utf8_all cs)

abbrev pub placed : Option Kind → ℕ → ℕ → List Token
placed None start end = []
placed (Some k) start end = record { kind = k; start = start; end = end } ∷ []

-- the tokens among the elements, where the first element begins at the byte `at`
abbrev pub tokens_of : ℕ → List Element → List Token
tokens_of at [] = []
tokens_of at (e ∷ es) = placed e.kind at (at + byte_len e.text) ++ tokens_of (at + byte_len e.text) es

-- the bytes are these characters in UTF-8, and then bytes that begin with no character
pub record AreDecoded (bytes cs behind : List ℕ) : Type 0 where
  pub scalars : all_scalars cs ≡ true
  pub whole : bytes ≡ encode_utf8_all cs ++ behind
  pub stuck : StartsWithNoChar behind

-- the bytes are a text with these tokens
abbrev pub Lexes : List ℕ → List Token → Type 0
Lexes bytes tokens = (es : List Element) × AreDecoded bytes (spelled es) [] × AreElements es [] × (tokens ≡ tokens_of 0 es)

-- Faults.

-- no token, white space or comment begins the text
pub record BeginsNothing (cs : List ℕ) : Type 0 where
  pub some : cs ≢ []
  pub no_white : begins_with is_white cs ≡ false
  pub no_token : (k : Kind) (text rest : List ℕ) → cs ≡ text ++ rest → ¬ (Spells k text)

-- the text begins with `/*`, and no `*/` follows in it
abbrev pub IsOpen : List ℕ → Type 0
IsOpen cs = (more : List ℕ) × (cs ≡ codes "/*" ++ more) × (has_close more ≡ false)

-- the text begins with a number of 2 ^ 128 or more
abbrev pub IsWide : List ℕ → Type 0
IsWide cs = (n : ℕ) × (text : List ℕ) × (rest : List ℕ) × (cs ≡ text ++ rest) × IsLongest (kinds.Number n) text rest × (2 ^ 128 ≤ n)

-- the text begins with a number of this spelling, and a character that may go on a name follows it
abbrev pub IsRunOn : List ℕ → List ℕ → Type 0
IsRunOn cs text = (n : ℕ) × (rest : List ℕ) × (cs ≡ text ++ rest) × IsLongest (kinds.Number n) text rest × (n < 2 ^ 128) × IsTrue (begins_with may_continue rest)

-- the fault at the byte `at`, where the characters cs and then the bytes behind them are ahead
abbrev pub IsFaultAhead : ℕ → List ℕ → List ℕ → TokFault → Type 0
IsFaultAhead at cs behind (faults.NotUtf8 place) = (place ≡ at + byte_len cs) × (behind ≢ []) × ((cs ≡ []) ⊎ (IsOpen cs × IsTrue (has_close behind)))
IsFaultAhead at cs behind (faults.BadChar place) =
    ((place ≡ at) × (BeginsNothing cs ⊎ (IsOpen cs × (has_close behind ≡ false))))
    ⊎ ((text : List ℕ) × (place ≡ at + byte_len text) × IsRunOn cs text)
IsFaultAhead at cs behind (faults.Wide place) = (place ≡ at) × IsWide cs
IsFaultAhead at cs behind faults.OutOfMemory = ⊥

-- the bytes have no tokens, and this is their first fault: elements stand up to it
abbrev pub IsFault : List ℕ → TokFault → Type 0
IsFault bytes fault = (es : List Element) × (cs : List ℕ) × (behind : List ℕ) × AreDecoded bytes (spelled es ++ cs) behind
    × AreElements es cs × IsFaultAhead (byte_len (spelled es)) cs behind fault
