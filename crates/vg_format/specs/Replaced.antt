-- A word with ranges of its bits replaced, as a formula.
use Rattle.std.specs.Prelude.{ℕ, ◌+◌, ◌*◌, ◌-◌, ◌/◌, ◌%◌, ◌^◌, List, [], ◌∷◌}
use Rattle.vg_bits.specs.BitValue.{BitValue}
use Rattle.vg_isa.specs.declared.isa.Parts.{Parts}
use Rattle.vg_isa.specs.declared.ids.FieldId.{FieldId}
use Rattle.vg_isa.specs.Declaration.{bits_of, ranges_of}

-- the word with the bits of one range, given by its high and its low bit, replaced
abbrev pub with_range : ℕ × ℕ → ℕ → ℕ → ℕ
with_range r word bits = (word / 2 ^ (r.0 + 1) * 2 ^ (r.0 + 1 - r.1) + bits) * 2 ^ r.1 + word % 2 ^ r.1

-- the word with the bits of ranges replaced by those of a value, the first range by its most significant ones
abbrev pub with_ranges : List (ℕ × ℕ) → ℕ → ℕ → ℕ
with_ranges [] word value = word
with_ranges (r ∷ ranges) word value = with_ranges ranges (with_range r word (value / 2 ^ bits_of ranges % 2 ^ (r.0 + 1 - r.1))) value

-- the word with one field after another set
abbrev pub with_fields : Parts → List (FieldId × BitValue) → ℕ → ℕ
with_fields d [] word = word
with_fields d (give ∷ fields) word = with_fields d fields (with_ranges (ranges_of d give.0) word give.1.number)
