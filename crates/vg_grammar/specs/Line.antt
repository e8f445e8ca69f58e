-- The line of an instruction with values for the fields of its format.
use Rattle.std.specs.Prelude.{ℕ, ◌+◌, ◌-◌, ◌*◌, ◌^◌, Bool, false, ◌&&◌, ◌==◌, nat_le, if◌then◌else◌, List, [], ◌∷◌, ◌++◌, map, codes, decimal, slice_get, slice_index_or}
use Rattle.std.specs.Int.{is_in_range}
use Rattle.std.specs.Option.{option_map_or, unwrap_or}
use Rattle.vg_isa.specs.declared.declaration.RegDecl.{RegDecl}
use Rattle.vg_isa.specs.declared.ids.FieldId.{FieldId}
use Rattle.vg_isa.specs.declared.instr.Instr.{Instr}
use Rattle.vg_isa.specs.declared.instr.Part.{Part}
use Rattle.vg_isa.specs.declared.instr.Part.TheVariants as part
use Rattle.vg_isa.specs.declared.isa.Parts.{Parts}
use Rattle.vg_isa.specs.Declaration.{bits_of, ranges_of}
use Rattle.vg_text.specs.Number.{hexadecimal}
use Rattle.vg_grammar.specs.Lexeme.{is_word_byte, begins_word}

-- ---- numbers

-- a letter of ASCII in lower case
abbrev pub lower : ℕ → ℕ
lower c = if is_in_range 65 90 c then c + 32 else c

-- a field of so many bits is negative as two's complement
abbrev pub is_negative : ℕ → ℕ → Bool
is_negative width value = nat_le (2 ^ (width - 1)) value

-- as two's complement, with `-` where it is negative
abbrev pub signed_text : ℕ → ℕ → List ℕ
signed_text width value = if is_negative width value then codes "-" ++ decimal (2 ^ width - value) else decimal value

-- without zeros in front of another digit
abbrev pub trimmed : List ℕ → List ℕ
trimmed [] = []
trimmed (c ∷ []) = c ∷ []
trimmed (c ∷ d ∷ cs) = if c == 48 then trimmed (d ∷ cs) else c ∷ d ∷ cs

-- hexadecimal in lower case; a field has at most 64 bits, so 16 digits are enough
abbrev pub hex_text : ℕ → List ℕ
hex_text value = codes "0x" ++ trimmed (hexadecimal 16 value)

-- a distance: as two's complement, times 2 to a power
abbrev pub target_text : ℕ → ℕ → ℕ → List ℕ
target_text width power value =
    if is_negative width value then codes ".-" ++ decimal ((2 ^ width - value) * 2 ^ power) else codes ".+" ++ decimal (value * 2 ^ power)

-- ---- parts

-- the value of a field, by its place in the format
abbrev pub value_of : List ℕ → FieldId → ℕ
value_of values f = slice_index_or values f.index 0

-- how many bits the ranges of a field have together
abbrev pub width_of : Parts → FieldId → ℕ
width_of d f = bits_of (ranges_of d f)

-- the name of a register file in lower case, and an index
abbrev pub register_text : Parts → ℕ → ℕ → List ℕ
register_text d r index = option_map_or (λ (decl : RegDecl). map lower decl.name) (slice_get d.regs r) [] ++ decimal index

-- the text of a part
abbrev pub part_text : Parts → Instr → List ℕ → Part → List ℕ
part_text d instr values (part.Lit text) = text
part_text d instr values part.Mnemonic = map lower instr.name
part_text d instr values (part.Register r f) = register_text d r.0 (value_of values f)
part_text d instr values (part.Decimal f) = decimal (value_of values f)
part_text d instr values (part.Signed f) = signed_text (width_of d f) (value_of values f)
part_text d instr values (part.Hex f) = hex_text (value_of values f)
part_text d instr values (part.Target f power) = target_text (width_of d f) power (value_of values f)

-- ---- the line

-- whether a text ends with a byte of a word
abbrev pub ends_word : List ℕ → Bool
ends_word [] = false
ends_word (c ∷ []) = is_word_byte c
ends_word (c ∷ d ∷ cs) = ends_word (d ∷ cs)

-- one space where two words would touch
abbrev pub gap : List ℕ → List ℕ → List ℕ
gap text rest = if ends_word text && begins_word rest then codes " " else []

-- texts one behind the other
abbrev pub joined : List (List ℕ) → List ℕ
joined [] = []
joined (text ∷ more) = text ++ gap text (joined more) ++ joined more

-- the line of an instruction; one without a template has none, and nothing reads as it
abbrev pub line_of : Parts → Instr → List ℕ → List ℕ
line_of d instr values = joined (map (part_text d instr values) (unwrap_or instr.template []))
