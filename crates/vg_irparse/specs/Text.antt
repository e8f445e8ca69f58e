-- What single lexemes are: names, labels, numbers and quoted texts.
use Rattle.std.specs.Prelude.{ℕ, ◌+◌, ◌-◌, ◌*◌, ◌^◌, min, Bool, true, false, not, ◌&&◌, ◌||◌, ◌==◌, nat_lt, if◌then◌else◌, List, [], ◌∷◌, length, Option, Some, None, is_some, unwrap_or}
use Rattle.std.specs.Int.{is_in_range}
use Rattle.vg_ir.specs.declared.number.Number.{Number}
use Rattle.vg_ir.specs.declared.name.Name.{Name}
use Rattle.vg_ir.specs.declared.spot.Spot.{Spot}
use Rattle.vg_irlex.specs.Lexing.{is_bare_name, are_digits, is_quoted, is_c_quoted, is_word_name}

-- ---- kinds

-- `%` (37) and a name
abbrev pub is_local : List ℕ → Bool
is_local [] = false
is_local (c ∷ cs) = c == 37 && is_bare_name cs

-- `@` (64) and a name
abbrev pub is_global : List ℕ → Bool
is_global [] = false
is_global (c ∷ cs) = c == 64 && is_bare_name cs

-- the name of a block as it stands before its `:`
abbrev pub is_label : List ℕ → Bool
is_label text = is_bare_name text

-- `#` (35) and digits
abbrev pub is_group : List ℕ → Bool
is_group [] = false
is_group (c ∷ cs) = c == 35 && are_digits cs

-- decimal digits behind a `-` (45), or alone
abbrev pub is_number : List ℕ → Bool
is_number [] = false
is_number (c ∷ cs) = if c == 45 then are_digits cs else are_digits (c ∷ cs)

-- what may stand where the grammar has any lexeme: all but one byte of 128 or more
abbrev pub is_any : List ℕ → Bool
is_any [] = true
is_any (c ∷ []) = nat_lt c 128
is_any (c ∷ d ∷ cs) = true

-- ---- numbers

-- the number that begins with the digits of n and goes on with these
abbrev pub value_from : ℕ → List ℕ → ℕ
value_from n [] = n
value_from n (c ∷ cs) = value_from (n * 10 + (c - 48)) cs

-- the value of digits
abbrev pub digits_value : List ℕ → ℕ
digits_value cs = value_from 0 cs

-- a number as it is written
abbrev pub written : List ℕ → Number
written [] = record { negative = false; magnitude = 0 }
written (c ∷ cs) =
    if c == 45 then record { negative = true; magnitude = digits_value cs }
    else record { negative = false; magnitude = digits_value (c ∷ cs) }

-- a magnitude as it is kept
abbrev pub kept : ℕ → ℕ
kept n = min n (2 ^ 64 - 1)

-- a number as it is kept
abbrev pub number_of : List ℕ → Number
number_of text = record { negative = (written text).negative; magnitude = kept ((written text).magnitude) }

-- ---- names and quoted texts

-- the value of a hexadecimal digit
abbrev pub hexadecimal_value : ℕ → Option ℕ
hexadecimal_value c =
    if is_in_range 48 57 c then Some (c - 48)
    else (if is_in_range 97 102 c then Some (c - 87) else (if is_in_range 65 70 c then Some (c - 55) else None))

abbrev pub byte_from : Option ℕ → Option ℕ → Option ℕ
byte_from None low = None
byte_from (Some high) None = None
byte_from (Some high) (Some low) = Some (high * 16 + low)

-- the byte of two hexadecimal digits
abbrev pub hexadecimal : ℕ → ℕ → Option ℕ
hexadecimal d e = byte_from (hexadecimal_value d) (hexadecimal_value e)

-- What a quoted text stands for, up to its closing quote (34): `\` (92) and two hexadecimal digits are that byte, two `\` are
-- one, and any other `\` stands for itself.
abbrev pub unescaped : List ℕ → List ℕ
unescaped [] = []
unescaped (c ∷ []) = if c == 34 then [] else c ∷ []
unescaped (c ∷ d ∷ []) = if c == 34 then [] else (if c == 92 && d == 92 then 92 ∷ [] else c ∷ unescaped (d ∷ []))
unescaped (c ∷ d ∷ e ∷ cs) =
    if c == 34 then []
    else (if c == 92 && d == 92 then 92 ∷ unescaped (e ∷ cs)
    else (if c == 92 && is_some (hexadecimal d e) then unwrap_or (hexadecimal d e) 0 ∷ unescaped cs
    else c ∷ unescaped (d ∷ e ∷ cs)))

-- the bytes of a name, of which this is written without a `%` or `@`
abbrev pub bare_bytes : List ℕ → List ℕ
bare_bytes [] = []
bare_bytes (c ∷ cs) = if c == 34 then unescaped cs else c ∷ cs

-- a text behind its first byte
abbrev pub behind_first : List ℕ → List ℕ
behind_first [] = []
behind_first (c ∷ cs) = cs

-- the bytes of a name with its `%` or `@`
abbrev pub name_bytes : List ℕ → List ℕ
name_bytes text = bare_bytes (behind_first text)

-- the bytes of a quoted text behind a `c`
abbrev pub c_bytes : List ℕ → List ℕ
c_bytes text = bare_bytes (behind_first text)

-- a name of the one text that is read
abbrev pub name_of : List ℕ → Name
name_of bytes = record { unit = 0; text = bytes }

-- a place in it
abbrev pub spot : ℕ → Spot
spot at = record { unit = 0; at = at }
