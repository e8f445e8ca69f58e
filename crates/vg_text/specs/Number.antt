-- Numbers as text: hexadecimal of a fixed length in lower case, and decimal.
use Rattle.std.specs.Prelude.{ℕ, zero, suc, ◌+◌, ◌-◌, ◌*◌, ◌/◌, ◌%◌, ◌^◌, ◌≤◌, ◌⊎◌, ◌&&◌, ◌==◌, nat_lt, nat_le, if◌then◌else◌, List, [], ◌∷◌, Option, Some, None}
use Rattle.std.specs.Option.{option_and_then}

-- the character of a digit below 16, in lower case: 48 is `0`, and 87 + 10 is `a`
unfoldable pub hex_digit : ℕ → ℕ
hex_digit d = if nat_lt d 10 then 48 + d else 87 + d

-- the digit that a character stands for, in lower case
unfoldable pub hex_value : ℕ → Option ℕ
hex_value c = if nat_le 48 c && nat_le c 57 then Some (c - 48) else (if nat_le 97 c && nat_le c 102 then Some (c - 87) else None)

-- the lowest digits of n in base 16, this many, the most significant first
unfoldable pub hexadecimal : ℕ → ℕ → List ℕ
hexadecimal zero n = []
hexadecimal (suc digits) n = hex_digit (n / 16 ^ digits % 16) ∷ hexadecimal digits n

-- the number that n and then this many hexadecimal digits at the front of the text make, and what follows them
unfoldable pub hexadecimal_after : ℕ → ℕ → List ℕ → Option (ℕ × List ℕ)
hexadecimal_after n zero text = Some (n, text)
hexadecimal_after n (suc digits) [] = None
hexadecimal_after n (suc digits) (c ∷ text) = option_and_then (λ d. hexadecimal_after (n * 16 + d) digits text) (hex_value c)

-- the number that this many hexadecimal digits at the front of the text make, and what follows them
unfoldable pub hexadecimal_at : ℕ → List ℕ → Option (ℕ × List ℕ)
hexadecimal_at digits text = hexadecimal_after 0 digits text

-- the digit that a character stands for
unfoldable pub decimal_value : ℕ → Option ℕ
decimal_value c = if nat_le 48 c && nat_le c 57 then Some (c - 48) else None

-- the number that n and then the decimal digits of the text make
unfoldable pub decimal_after : ℕ → List ℕ → Option ℕ
decimal_after n [] = Some n
decimal_after n (c ∷ text) = option_and_then (λ d. decimal_after (n * 10 + d) text) (decimal_value c)

-- the number of a whole text of decimal digits, one or more, with no sign and no zero in front of another digit
unfoldable pub decimal_of : List ℕ → Option ℕ
decimal_of [] = None
decimal_of (c ∷ []) = decimal_after 0 (c ∷ [])
decimal_of (c ∷ d ∷ text) = if c == 48 then None else decimal_after 0 (c ∷ d ∷ text)

-- the number in o, if it is below the bound
abbrev pub option_below : ℕ → Option ℕ → Option ℕ
option_below bound None = None
option_below bound (Some n) = if nat_lt n bound then Some n else None

-- a character is `0` to `9` or `a` to `f`
abbrev pub IsHexCharacter : ℕ → Type 0
IsHexCharacter c = ((48 ≤ c) × (c ≤ 57)) ⊎ ((97 ≤ c) × (c ≤ 102))
