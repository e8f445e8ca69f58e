-- The fields of a format one behind the other.
use Rattle.std.proofs.Common.{◌≡◌, ℕ, ◌<◌, Bool, true, false, List, [], ◌∷◌, ◌++◌, length, get_or, Some, refl, ap, sym, ◌∙◌}
use Rattle.std.specs.List.{list_all}
use Rattle.std.proofs.lemmas.List.Folds.{list_all_at}
use Rattle.std.proofs.lemmas.Bool.{true_from_ne_false, both_ways}
use Rattle.vg_ast.specs.declared.field.Field.{Field}
use Rattle.vg_names.specs.First.{first_of}
use Rattle.vg_whole.specs.Whole.{Constants}
use Rattle.vg_type.specs.Judged.{told}
use Rattle.vg_declare.specs.declared.span.Span.{Span}
use Rattle.vg_declare.specs.FieldCover.{field_ends, is_wrong_field, named_behind, wrong_fields}
use Rattle.vg_declare.specs.Mask.{Names}
use Rattle.vg_declare.proofs.MaskLemmas.{nothing_named}

-- a test that all of a list pass is passed by one of them
pub passed_at : {X : Type 0} (p : X → Bool) (xs : List X) (i : ℕ) (x : X) → list_all p xs ≡ true → i < length xs → x ≡ get_or xs i x → p x ≡ true
passed_at p xs i x e h is = true_from_ne_false (p x) (λ f. both_ways (list_all p xs) (list_all_at p xs i x h (ap p (sym is) ∙ f)) e)

-- which fields are left to be asked, where these bits are named
pub record FieldsLeft (constants : Constants) (w : ℕ) (fields : List Field) (named : ℕ) (rest : List Field) : Type 0 where
  pub behind : List Span
  pub names : Names w named behind
  pub left : first_of (wrong_fields constants w [] fields) ≡ first_of (wrong_fields constants w behind rest)

told_first : (t : Bool) (at : ℕ) (more : List ℕ) → t ≡ true → first_of (told t at ++ more) ≡ Some at
told_first t at more e = ap (λ b. first_of (told b at ++ more)) e

told_not : (t : Bool) (at : ℕ) (more : List ℕ) → t ≡ false → first_of (told t at ++ more) ≡ first_of more
told_not t at more e = ap (λ b. first_of (told b at ++ more)) e

module _ (constants : Constants) (w : ℕ) (fields : List Field) where
  pub fields_first : FieldsLeft constants w fields 0 fields
  fields_first = record { behind = []; names = nothing_named w; left = refl }

  module _ (named : ℕ) (field : Field) (rest : List Field) (left : FieldsLeft constants w fields named (field ∷ rest)) where
    pub field_wrong : is_wrong_field w left.behind (field_ends constants field) ≡ true → Some field.name.at ≡ first_of (wrong_fields constants w [] fields)
    field_wrong e = sym (left.left ∙ told_first (is_wrong_field w left.behind (field_ends constants field)) field.name.at (wrong_fields constants w (named_behind left.behind (field_ends constants field)) rest) e)

    pub field_right : (more : ℕ) → (is_wrong_field w left.behind (field_ends constants field) ≡ false) × Names w more (named_behind left.behind (field_ends constants field)) → FieldsLeft constants w fields more rest
    field_right more h = record {
      behind = named_behind left.behind (field_ends constants field);
      names = h.1;
      left = left.left ∙ told_not (is_wrong_field w left.behind (field_ends constants field)) field.name.at (wrong_fields constants w (named_behind left.behind (field_ends constants field)) rest) h.0;
    }
