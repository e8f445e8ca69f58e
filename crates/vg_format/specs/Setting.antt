-- A word with a field set.
use Rattle.std.specs.Prelude.{◌≡◌, ℕ, Bool, false}
use Rattle.std.specs.List.{list_any}
use Rattle.std.specs.Int.{bit_at}
use Rattle.vg_bits.specs.BitValue.{BitValue}
use Rattle.vg_isa.specs.declared.isa.Parts.{Parts}
use Rattle.vg_isa.specs.declared.ids.FieldId.{FieldId}
use Rattle.vg_isa.specs.Declaration.{field_of, ranges_of}
use Rattle.vg_isa.specs.Accepted.{names_bit}

-- the bit of this number, counted from the least significant one, is one of the field's
abbrev pub is_bit_of : Parts → FieldId → ℕ → Bool
is_bit_of d f k = list_any (names_bit k) (ranges_of d f)

-- A word with a field set to a value: the field reads as the value, and every other bit is as it was.
pub record SetsField (d : Parts) (f : FieldId) (word value changed : BitValue) : Type 0 where
  pub width : changed.width ≡ word.width
  pub reads : field_of d f changed.number ≡ value
  pub keeps : (k : ℕ) → is_bit_of d f k ≡ false → bit_at changed.number k ≡ bit_at word.number k
