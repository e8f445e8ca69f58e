-- The word of an instruction.
use Rattle.std.specs.Prelude.{◌≡◌, ℕ, Bool, false, ◌&&◌, IsTrue, nat_eq, List, [], ◌++◌, slice_get}
use Rattle.std.specs.List.{list_all, list_any}
use Rattle.std.specs.Option.{option_map_or}
use Rattle.std.specs.Int.{bit_at}
use Rattle.vg_bits.specs.BitValue.{BitValue}
use Rattle.vg_isa.specs.declared.isa.Parts.{Parts}
use Rattle.vg_isa.specs.declared.ids.FieldId.{FieldId}
use Rattle.vg_isa.specs.declared.instr.Instr.{Instr}
use Rattle.vg_isa.specs.Declaration.{field_of}
use Rattle.vg_isa.specs.Accepted.{is_fixed}
use Rattle.vg_isa.specs.Same.{all_differ, same_field}
use Rattle.vg_format.specs.Matching.{matches_at}
use Rattle.vg_format.specs.Setting.{is_bit_of}

-- the fields have their values in the word
abbrev pub have_values : Parts → ℕ → List (FieldId × BitValue) → Bool
have_values d word fields = list_all (λ give. nat_eq (field_of d give.0 word).number give.1.number) fields

-- the fields that the encoding of the instruction of this number fixes, with their values
abbrev pub fixed_by : Parts → ℕ → List (FieldId × BitValue)
fixed_by d i = option_map_or (λ (instr : Instr). instr.fixed) (slice_get d.instrs i) []

-- Fields that can be given to an instruction: fields of its format with values of their widths, all different,
-- none of them fixed.
abbrev pub can_give : Parts → ℕ → List (FieldId × BitValue) → Bool
can_give d i fields =
    option_map_or (λ (instr : Instr).
    list_all (is_fixed d instr.format) fields
    && all_differ (λ (f g : FieldId × BitValue). same_field f.0 g.0) (instr.fixed ++ fields)) (slice_get d.instrs i) false

-- the bit belongs to a field of the list
abbrev pub is_bit_of_any : Parts → List (FieldId × BitValue) → ℕ → Bool
is_bit_of_any d fields k = list_any (λ give. is_bit_of d give.0 k) fields

-- The word of an instruction with given fields: the instruction matches it, it has the given fields, and each bit
-- that is neither fixed nor given is 0.
pub record IsEncoded (d : Parts) (i : ℕ) (fields : List (FieldId × BitValue)) (word : BitValue) : Type 0 where
  pub width : word.width ≡ d.word
  pub matches : IsTrue (matches_at d word.number i)
  pub given : IsTrue (have_values d word.number fields)
  pub rest : (k : ℕ) → is_bit_of_any d (fixed_by d i ++ fields) k ≡ false → bit_at word.number k ≡ 0
