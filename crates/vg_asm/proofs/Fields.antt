-- The fields of an instruction's format in a word.
use Rattle.std.proofs.Common.{◌≡◌, ℕ, zero, suc, ◌<◌, ◌≤◌, IsTrue, List, [], ◌∷◌, Option, Some, None, map, slice_get, slice_index_or, refl, ap, sym, ◌∙◌, subst, arith}
use Rattle.std.specs.Option.{option_map_or}
use Rattle.vg_isa.specs.declared.isa.Parts.{Parts}
use Rattle.vg_isa.specs.declared.ids.FieldId.{FieldId}
use Rattle.vg_isa.specs.declared.instr.Instr.{Instr}
use Rattle.vg_isa.specs.declared.format.Format.{Format}
use Rattle.vg_isa.specs.declared.format.FieldDecl.{FieldDecl}
use Rattle.vg_isa.specs.Declaration.{bits_in, bits_of, ranges_of}
use Rattle.vg_isa.specs.Accepted.{is_field_of, is_isa}
use Rattle.vg_isa.proofs.Tests.{both, true-nat_eq}
use Rattle.vg_isa.proofs.Fields.{field_kept}
use Rattle.vg_isa.proofs.Kept.{word_most}
use Rattle.vg_grammar.specs.Line.{value_of, width_of}
use Rattle.vg_grammar.specs.Reading.{fields_of}
use Rattle.vg_asm.specs.Shown.{values_in}

-- the value of each field of a list is that of its ranges
value_at : (fields : List FieldDecl) (index word : ℕ) → slice_index_or (map (λ (field : FieldDecl). bits_in field.ranges word) fields) index 0 ≡ bits_in (option_map_or (λ (field : FieldDecl). field.ranges) (slice_get fields index) []) word
value_at [] index word = refl
value_at (field ∷ fields) zero word = refl
value_at (field ∷ fields) (suc index) word = value_at fields index word

ranges_in : (o : Option Format) (index : ℕ) → option_map_or (λ (format : Format). option_map_or (λ (field : FieldDecl). field.ranges) (slice_get format.fields index) []) o [] ≡ option_map_or (λ (field : FieldDecl). field.ranges) (slice_get (option_map_or (λ (format : Format). format.fields) o []) index) []
ranges_in None index = refl
ranges_in (Some format) index = refl

-- the value of a field of the instruction's format in a word
pub value_is : (d : Parts) (instr : Instr) (f : FieldId) (word : ℕ) → IsTrue (is_field_of d instr.format f) → bits_in (ranges_of d f) word ≡ value_of (values_in d instr word) f
value_is d instr f word field =
    let same : f.format.0 ≡ instr.format.0 = true-nat_eq _ _ (both _ _ field).0 in
    let ranges : ranges_of d f ≡ option_map_or (λ (g : FieldDecl). g.ranges) (slice_get (fields_of d instr) f.index) [] =
    ranges_in (slice_get d.formats f.format.0) f.index
    ∙ ap (λ k. option_map_or (λ (g : FieldDecl). g.ranges) (slice_get (option_map_or (λ (format : Format). format.fields) (slice_get d.formats k) []) f.index) []) same in
    ap (λ ranges. bits_in ranges word) ranges ∙ sym (value_at (fields_of d instr) f.index word)

-- a field has no more bits than a word
few_bits : (d : Parts) (i j : ℕ) (o : Option Format) → IsTrue (is_isa d) → slice_get d.formats i ≡ o → bits_of (option_map_or (λ (format : Format). option_map_or (λ (field : FieldDecl). field.ranges) (slice_get format.fields j) []) o []) ≤ 64
few_bits d i j None h at = omega arith
few_bits d i j (Some format) h at = few_bits_in (slice_get format.fields j) refl
  where
    few_bits_in : (o : Option FieldDecl) → slice_get format.fields j ≡ o → bits_of (option_map_or (λ (field : FieldDecl). field.ranges) o []) ≤ 64
    few_bits_in None is = omega arith
    few_bits_in (Some field) is = omega (arith, (field_kept d i j format field h at is).few, word_most d h)

pub width_most : (d : Parts) (f : FieldId) → IsTrue (is_isa d) → bits_of (ranges_of d f) ≤ 64
width_most d f h = few_bits d f.format.0 f.index (slice_get d.formats f.format.0) h refl
