-- The numbers of a line, and how each is written.
use Rattle.std.specs.Prelude.{◌≡◌, ℕ, ◌-◌, ◌*◌, ◌^◌, ◌<◌, if◌then◌else◌, List, ◌++◌, Option, Some, None, codes, decimal}
use Rattle.vg_isa.specs.declared.instr.Part.{Part}
use Rattle.vg_isa.specs.declared.instr.Part.TheVariants as part
use Rattle.vg_isa.specs.declared.isa.Parts.{Parts}
use Rattle.vg_grammar.specs.Line.{hex_text, is_negative, value_of, width_of}

-- a number as a line has it: in decimal, with `-` or without, in hexadecimal, or as a distance, to a later place or an
-- earlier one
pub data Numeral : Type 0 where
  Whole : ℕ → Numeral
  Minus : ℕ → Numeral
  Hexadecimal : ℕ → Numeral
  Forward : ℕ → Numeral
  Back : ℕ → Numeral

-- how it is written
abbrev pub numeral_text : Numeral → List ℕ
numeral_text (Whole n) = decimal n
numeral_text (Minus n) = codes "-" ++ decimal n
numeral_text (Hexadecimal n) = hex_text n
numeral_text (Forward n) = codes ".+" ++ decimal n
numeral_text (Back n) = codes ".-" ++ decimal n

-- a number of few digits
abbrev pub IsShort : Numeral → Type 0
IsShort (Whole n) = n < 10 ^ 64
IsShort (Minus n) = n < 10 ^ 64
IsShort (Hexadecimal n) = n < 2 ^ 64
IsShort (Forward n) = n < 10 ^ 64
IsShort (Back n) = n < 10 ^ 64

-- a value of so many bits as two's complement
abbrev pub signed_numeral : ℕ → ℕ → Numeral
signed_numeral width value = if is_negative width value then Minus (2 ^ width - value) else Whole value

-- the same times 2 to a power, as a distance
abbrev pub target_numeral : ℕ → ℕ → ℕ → Numeral
target_numeral width power value =
    if is_negative width value then Back ((2 ^ width - value) * 2 ^ power) else Forward (value * 2 ^ power)

-- the number that a part is; None at a text, a mnemonic and a register, whose text has more than a number
abbrev pub numeral_of : Parts → List ℕ → Part → Option Numeral
numeral_of d values (part.Decimal f) = Some (Whole (value_of values f))
numeral_of d values (part.Signed f) = Some (signed_numeral (width_of d f) (value_of values f))
numeral_of d values (part.Hex f) = Some (Hexadecimal (value_of values f))
numeral_of d values (part.Target f power) = Some (target_numeral (width_of d f) power (value_of values f))
numeral_of d values (part.Lit text) = None
numeral_of d values part.Mnemonic = None
numeral_of d values (part.Register r f) = None
