-- What an accepted description tells of its fields.
use Rattle.std.proofs.Common.{◌≡◌, ℕ, zero, suc, ◌≤◌, true, IsTrue, nat_lt, List, [], ◌∷◌, length, slice_get, Some, subst, flat_map}
use Rattle.std.proofs.lemmas.Bool.{and_from as conjunction}
use Rattle.std.proofs.lemmas.List.Folds.{list_all-append}
use Rattle.vg_isa.specs.declared.isa.Parts.{Parts}
use Rattle.vg_isa.specs.declared.format.Format.{Format}
use Rattle.vg_isa.specs.declared.format.FieldDecl.{FieldDecl}
use Rattle.vg_isa.specs.Declaration.{bits_of, are_in_word, are_ranges}
use Rattle.vg_isa.specs.Accepted.{is_isa, is_format}
use Rattle.vg_isa.proofs.Tests.{both, list_all-slice_get}
use Rattle.vg_isa.proofs.Cover.{field_fits}
use Rattle.vg_isa.proofs.Kept.{kept}

-- what all ranges of a format have, those of each field have
some_in_word : (word : ℕ) (fields : List FieldDecl) (j : ℕ) (field : FieldDecl) → are_in_word word (flat_map (λ (f : FieldDecl). f.ranges) fields) ≡ true → slice_get fields j ≡ Some field → are_in_word word field.ranges ≡ true
some_in_word word [] j field h at = cc
some_in_word word (f ∷ fields) zero field h at =
    let same : f ≡ field = cc in
    let split = rw (list_all-append _ f.ranges (flat_map (λ (f : FieldDecl). f.ranges) fields)) at h in
    subst (λ (g : FieldDecl). are_in_word word g.ranges ≡ true) same (both _ _ split).0
some_in_word word (f ∷ fields) (suc j) field h at =
    let split = rw (list_all-append _ f.ranges (flat_map (λ (f : FieldDecl). f.ranges) fields)) at h in
    some_in_word word fields j field (both _ _ split).1 at

-- a format of an accepted description
pub format_accepted : (d : Parts) (i : ℕ) (format : Format) → IsTrue (is_isa d) → slice_get d.formats i ≡ Some format → IsTrue (is_format d.word format)
format_accepted d i format h at = list_all-slice_get (is_format d.word) d.formats i format (kept d h).formats at

-- the ranges of a field: there is one, they lie in the word, and they have no more bits than it
pub record KeepsField (word : ℕ) (field : FieldDecl) : Type 0 where
  pub ranges : IsTrue (are_ranges word field.ranges)
  pub few : bits_of field.ranges ≤ word

pub field_kept : (d : Parts) (i j : ℕ) (format : Format) (field : FieldDecl) → IsTrue (is_isa d) → slice_get d.formats i ≡ Some format → slice_get format.fields j ≡ Some field → KeepsField d.word field
field_kept d i j format field h at_format at_field =
    let f : IsTrue (is_format d.word format) = format_accepted d i format h at_format in
    record {
      ranges =
          conjunction _ _
          (list_all-slice_get (λ (g : FieldDecl). nat_lt 0 (length g.ranges)) format.fields j field (both _ _ (both _ _ f).0).0 at_field)
          (some_in_word d.word format.fields j field (both _ _ (both _ _ f).0).1 at_field);
      few = field_fits d.word format j field f at_field;
    }

pub ranges_in_word : (word : ℕ) (ranges : List (ℕ × ℕ)) → IsTrue (are_ranges word ranges) → IsTrue (are_in_word word ranges)
ranges_in_word word ranges h = (both _ _ h).1
