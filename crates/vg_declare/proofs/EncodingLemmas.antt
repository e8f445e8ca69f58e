-- The fields that an encoding names, one behind the other.
use Rattle.std.proofs.Common.{◌≡◌, Bool, true, false, not, ◌||◌, List, [], ◌∷◌, ◌++◌, map, Some, refl, ap, sym, ◌∙◌, if◌then◌else◌}
use Rattle.std.specs.Borrow.{Bor}
use Rattle.std.specs.List.{list_any}
use Rattle.std.specs.Str.{bytes_eq}
use Rattle.vg_ast.specs.declared.fix.Fix.{Fix}
use Rattle.vg_names.specs.Definition.{Text, is_among}
use Rattle.vg_names.specs.First.{first_of}
use Rattle.vg_names.proofs.TableLemmas.{bytes_eq_sym}
use Rattle.vg_names.proofs.Texts.{among_append}
use Rattle.vg_whole.specs.Whole.{Inner, inner_of, whole_of}
use Rattle.vg_type.specs.declared.sort.Sort.{Sort}
use Rattle.vg_type.specs.Item.{Setting}
use Rattle.vg_type.specs.Judged.{told}
use Rattle.vg_declare.specs.FieldValue.{fits_field, is_wrong_fix, wrong_fixes}

-- ---- the names

-- the `==` of a set's texts
pub contains_text : (text : Text) (ks : List (Bor Text)) → list_any (λ (k : Bor Text). bytes_eq text k.now) ks ≡ is_among text (map (λ (k : Bor Text). k.now) ks)
contains_text text [] = refl
contains_text text (k ∷ ks) = by (bytes_eq text k.now) (bytes_eq_sym text k.now) (contains_text text ks)
  where
    by : (b : Bool) → b ≡ bytes_eq k.now text → list_any (λ (k : Bor Text). bytes_eq text k.now) ks ≡ is_among text (map (λ (k : Bor Text). k.now) ks)
        → (b || list_any (λ (k : Bor Text). bytes_eq text k.now) ks) ≡ (if bytes_eq k.now text then true else is_among text (map (λ (k : Bor Text). k.now) ks))
    by true e rest = ap (λ b. if b then true else is_among text (map (λ (k : Bor Text). k.now) ks)) e
    by false e rest = rest ∙ ap (λ b. if b then true else is_among text (map (λ (k : Bor Text). k.now) ks)) e

map_push : (ks : List (Bor Text)) (k : Bor Text) → map (λ (k : Bor Text). k.now) (ks ++ k ∷ []) ≡ map (λ (k : Bor Text). k.now) ks ++ k.now ∷ []
map_push [] k = refl
map_push (x ∷ ks) k = ap (λ ts. x.now ∷ ts) (map_push ks k)

-- the texts of a set behind an insert that added one
pub texts_inserted : (ks new : List (Bor Text)) (k : Bor Text) → new ≡ (if list_any (λ (x : Bor Text). bytes_eq k.now x.now) ks then ks else ks ++ k ∷ []) → true ≡ not (list_any (λ (x : Bor Text). bytes_eq k.now x.now) ks)
    → map (λ (k : Bor Text). k.now) new ≡ map (λ (k : Bor Text). k.now) ks ++ k.now ∷ []
texts_inserted ks new k e h = ap (map (λ (k : Bor Text). k.now)) (e ∙ by (list_any (λ (x : Bor Text). bytes_eq k.now x.now) ks) h) ∙ map_push ks k
  where
    by : (b : Bool) → true ≡ not b → (if b then ks else ks ++ k ∷ []) ≡ ks ++ k ∷ []
    by true h = absurd (cc)
    by false h = refl

-- ---- fields that are right so far

among_pushed : (text t : Text) (ts : List Text) → is_among text (ts ++ t ∷ []) ≡ (if bytes_eq t text then true else is_among text ts)
among_pushed text t ts = among_append text ts (t ∷ []) ∙ by (is_among text ts) (bytes_eq t text)
  where
    by : (a b : Bool) → (a || (if b then true else false)) ≡ (if b then true else a)
    by true true = refl
    by true false = refl
    by false true = refl
    by false false = refl

-- which fields are left to be asked, where these texts are named
pub record FixesLeft (setting : Setting) (fields : Inner Sort) (fixes : List Fix) (texts : List Text) (rest : List Fix) : Type 0 where
  pub front : List Text
  pub named : (text : Text) → is_among text front ≡ is_among text texts
  pub left : first_of (wrong_fixes setting fields [] fixes) ≡ first_of (wrong_fixes setting fields front rest)

module _ (setting : Setting) (fields : Inner Sort) (fixes : List Fix) where
  pub fixes_first : FixesLeft setting fields fixes [] fixes
  fixes_first = record { front = []; named = λ text. refl; left = refl }

  module _ (texts : List Text) (fix : Fix) (rest : List Fix) (left : FixesLeft setting fields fixes texts (fix ∷ rest)) where
    same_wrong : is_wrong_fix setting fields left.front fix ≡ is_wrong_fix setting fields texts fix
    same_wrong = ap (λ t. t || not (fits_field (inner_of fields fix.name.text) (whole_of setting.globals.constants fix.value []))) (left.named fix.name.text)

    on : (t : Bool) → is_wrong_fix setting fields texts fix ≡ t → first_of (wrong_fixes setting fields [] fixes) ≡ first_of (told t fix.name.at ++ wrong_fixes setting fields (fix.name.text ∷ left.front) rest)
    on t e = left.left ∙ ap (λ b. first_of (told b fix.name.at ++ wrong_fixes setting fields (fix.name.text ∷ left.front) rest)) (same_wrong ∙ e)

    pub fix_wrong : is_wrong_fix setting fields texts fix ≡ true → Some fix.name.at ≡ first_of (wrong_fixes setting fields [] fixes)
    fix_wrong e = sym (on true e)

    pub fix_right : is_wrong_fix setting fields texts fix ≡ false → (next : List Text) → next ≡ texts ++ fix.name.text ∷ [] → FixesLeft setting fields fixes next rest
    fix_right e next is = record {
      front = fix.name.text ∷ left.front;
      named = λ text. ap (λ b. if bytes_eq fix.name.text text then true else b) (left.named text) ∙ sym (among_pushed text fix.name.text texts) ∙ ap (is_among text) (sym is);
      left = on false e;
    }
