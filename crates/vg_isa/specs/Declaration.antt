-- What a description declares: its fields, its registers, and how wide they are.
use Rattle.std.specs.Prelude.{ℕ, ◌+◌, ◌*◌, ◌-◌, ◌/◌, ◌%◌, ◌^◌, Bool, false, ◌&&◌, nat_eq, nat_le, nat_lt, List, [], ◌∷◌, length, sum_by, is_none, slice_get}
use Rattle.std.specs.Option.{option_map_or}
use Rattle.std.specs.List.{list_all}
use Rattle.vg_bits.specs.BitValue.{BitValue}
use Rattle.vg_isa.specs.declared.isa.Parts.{Parts}
use Rattle.vg_isa.specs.declared.ids.FieldId.{FieldId}
use Rattle.vg_isa.specs.declared.declaration.RegDecl.{RegDecl}
use Rattle.vg_isa.specs.declared.format.Format.{Format}
use Rattle.vg_isa.specs.declared.format.FieldDecl.{FieldDecl}

-- the bytes of an instruction word
abbrev pub word_bytes : Parts → ℕ
word_bytes d = d.word / 8

-- how many bits the ranges have, each given by its high and its low bit
abbrev pub bits_of : List (ℕ × ℕ) → ℕ
bits_of ranges = sum_by (λ r. r.0 + 1 - r.1) ranges

-- the bits of a word in its ranges, the most significant range first
abbrev pub bits_in : List (ℕ × ℕ) → ℕ → ℕ
bits_in [] word = 0
bits_in (r ∷ ranges) word = word / 2 ^ r.1 % 2 ^ (r.0 + 1 - r.1) * 2 ^ bits_of ranges + bits_in ranges word

-- the ranges of a field; none where the description has no such field
abbrev pub ranges_of : Parts → FieldId → List (ℕ × ℕ)
ranges_of d f = option_map_or (λ (format : Format). option_map_or (λ (field : FieldDecl). field.ranges) (slice_get format.fields f.index) []) (slice_get d.formats f.format.0) []

-- the field of a word
abbrev pub field_of : Parts → FieldId → ℕ → BitValue
field_of d f word = record { width = bits_of (ranges_of d f); number = bits_in (ranges_of d f) word }

-- ranges that run downwards within a word of so many bits
abbrev pub are_in_word : ℕ → List (ℕ × ℕ) → Bool
are_in_word word ranges = list_all (λ r. nat_le r.1 r.0 && nat_lt r.0 word) ranges

-- the ranges of a field: one or more within the word
abbrev pub are_ranges : ℕ → List (ℕ × ℕ) → Bool
are_ranges word ranges = nat_lt 0 (length ranges) && are_in_word word ranges

-- the description has this field
abbrev pub has_field : Parts → FieldId → Bool
has_field d f = nat_lt 0 (length (ranges_of d f))

-- a register's width; 0 where the description has no such register
abbrev pub register_width : List RegDecl → ℕ → ℕ
register_width regs r = option_map_or (λ (decl : RegDecl). decl.width) (slice_get regs r) 0

-- how many registers a declaration has
abbrev pub register_count : RegDecl → ℕ
register_count decl = option_map_or (λ (width : ℕ). 2 ^ width) decl.index 1

-- there is a register with this index in the declaration; a single register has the index 0
abbrev pub has_register : List RegDecl → ℕ → ℕ → Bool
has_register regs r i = option_map_or (λ (decl : RegDecl). nat_lt i (register_count decl)) (slice_get regs r) false

-- the declaration is that of a single register
abbrev pub is_single : List RegDecl → ℕ → Bool
is_single regs r = option_map_or (λ (decl : RegDecl). is_none decl.index) (slice_get regs r) false

-- the declaration is that of a register file whose index has this width
abbrev pub is_file : List RegDecl → ℕ → ℕ → Bool
is_file regs r width = option_map_or (λ (decl : RegDecl). option_map_or (λ (w : ℕ). nat_eq w width) decl.index false) (slice_get regs r) false
