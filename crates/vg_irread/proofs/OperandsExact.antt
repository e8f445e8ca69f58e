-- The readers of names, operands and types of values are exact.
use Rattle.std.proofs.Common.{◌≡◌, ℕ, ◌+◌, Bool, true, false, cond, ◌||◌, nat_eq, Option, Some, None, List, [], ◌∷◌, length, codes, refl, sym, ap, subst, ◌∙◌, arith, inl, inr}
use mathlib.Core.Path.{fun_ext}
use Rattle.std.proofs.lemmas.Bool.{and_parts, and_from, or_cases}
use Rattle.std.proofs.lemmas.Slice.Eq.{bytes_eq-Decides}
use Rattle.std.specs.Str.{bytes_eq}
use Rattle.vg_ir.specs.declared.ty.Ty.{Ty}
use Rattle.vg_ir.specs.declared.ty.Ty.TheVariants as ty
use Rattle.vg_ir.specs.declared.ty.TypeAt.{TypeAt}
use Rattle.vg_ir.specs.declared.operand.Operand.{Operand}
use Rattle.vg_ir.specs.declared.operand.TypedOperand.{TypedOperand}
use Rattle.vg_ir.specs.Shape.{integer_width}
use Rattle.vg_irparse.specs.declared.role.Role.{Role}
use Rattle.vg_irparse.specs.declared.role.Role.TheVariants as roles
use Rattle.vg_irparse.specs.declared.role.Wanted.{Wanted}
use Rattle.vg_irparse.specs.Placed.{Placed, Mark, Slot, plain, operand, value_type, marked, last_of_type, fixed, free, lexemes_of}
use Rattle.vg_irparse.specs.Text.{is_local, is_global, is_number, spot, name_of, name_bytes, digits_value}
use Rattle.vg_irparse.specs.Answer.{reads, leaves}
use Rattle.vg_irparse.specs.ReadingType.{wanted, simple_by}
use Rattle.vg_irparse.specs.Words.{entry_of, integer_words, constant_words, is_one_of}
use Rattle.vg_irparse.specs.Grammar.{is_type, is_value_type, is_operand_at, is_name_or_word}
use Rattle.vg_irparse.specs.Concrete.{TypeTree, integer, pointer, array, structure, named}
use Rattle.vg_irparse.specs.Spelling.{integer_text, spelled_type}
use Rattle.vg_irparse.specs.Tree as tree
use Rattle.vg_irparse.proofs.TypesSound.{mark_of, marked_is, text_is, simple_sound, made_is}
use Rattle.vg_irparse.proofs.TypesComplete.{simple_integer}
use Rattle.vg_irparse.proofs.TypesPlace.{no_mark}
use Rattle.vg_irread.specs.Kinds.{Kind, words, local, global, number, is_in}
use Rattle.vg_irread.specs.Reading.{token_at, token_by}
use Rattle.vg_irread.specs.Exact.{one, sign, single, both, nothing, IsExact}
use Rattle.vg_irread.specs.ReadingType.{a_type, type_kinds}
use Rattle.vg_irread.specs.ReadingOperand.{behind, sign_at, taken, local_at, result_name_at, a_result_name, is_number_for, is_operand_for, operand_at, an_operand, operand_kinds, scalar_by, scalar_in, scalar_of, value_type_at, a_value_type, value_type_kinds, any_typed_at, value_at, a_typed, a_value}
use Rattle.vg_irread.proofs.Apart.{in_head, in_tail}
use Rattle.vg_irread.proofs.Single.{Takes, token_exact, done_exact}
use Rattle.vg_irread.proofs.Layers.{width-Int, width-Ptr, width-Array, width-Struct, width-Named}
use Rattle.vg_irread.proofs.Pairs.{both_exact}
use Rattle.vg_irread.proofs.Same.{same_exact}
use Rattle.vg_irread.proofs.TypesExact.{type_exact}

-- ---- one lexeme that passes a test

-- a test for a lexeme, which stands for something
pub one_takes : {X : Type 0} (role : Role) (is : Placed → Bool) (value : Placed → X) (kinds : List Kind) (take : Placed → Option X)
    → ((l : Placed) → take l ≡ cond (is l) (Some (value l)) None) → (some : Placed) → is some ≡ true → ((l : Placed) → is l ≡ true → is_in kinds l.text ≡ true)
    → Takes (free role) is value kinds take
one_takes {X} role is value kinds take same some some_is kind = record {
  some = some;
  some_is = some_is;
  found = λ l x h. by_test l x (is l) refl (sym (same l) ∙ h);
  given = λ l g. same l ∙ rw g refl;
  kind = kind;
}
  where
    by_test : (l : Placed) (x : X) (b : Bool) → is l ≡ b → cond b (Some (value l)) None ≡ Some x → (t : Placed) × (is t ≡ true) × (l ≡ t) × (x ≡ value t)
    by_test l x true k h = (l, k, refl, cc)
    by_test l x false k h = absurd (cc)

text_placed : List ℕ → Placed
text_placed text = record { text = text; at = 0; fresh = false }

pub taken_exact : {X : Type 0} (role : Role) (is : List ℕ → Bool) (value : Placed → X) (kinds : List Kind) (text : List ℕ) → is text ≡ true
    → ((t : List ℕ) → is t ≡ true → is_in kinds t ≡ true) → (w : Wanted) → IsExact (one role (λ l. is l.text) value) kinds false [] (token_at (taken is value) w)
taken_exact role is value kinds text some kind w =
    token_exact (one_takes role (λ l. is l.text) value kinds (taken is value) (λ l. refl) (record { text = text; at = 0; fresh = false }) some (λ l g. kind l.text g)) w

-- a set of one kind
of_one : (b : Bool) → b ≡ true → cond b true false ≡ true
of_one b h = rw h refl

pub local_exact : (w : Wanted) → IsExact (one plain (λ l. is_local l.text) tree.name_at) (local ∷ []) false [] (local_at w)
local_exact w = taken_exact plain is_local tree.name_at (local ∷ []) (codes "%a") refl (λ t g. of_one (is_local t) g) w

-- ---- signs

same_bytes : (a : List ℕ) → bytes_eq a a ≡ true
same_bytes a = (bytes_eq-Decides a a).1 refl

sign_take : List ℕ → Placed → Option ℕ
sign_take text l = cond (bytes_eq l.text text) (Some l.at) None

sign_takes : (slot : Mark → Slot) (text : List ℕ) → ((m : Mark) → (slot m).lexeme ≡ marked text m) → Takes slot (λ m. true) (λ m. m.at) (words (text ∷ []) ∷ []) (sign_take text)
unfolding sign_take
sign_takes slot text same = record {
  some = no_mark;
  some_is = refl;
  found = λ l x h. by_test l x (bytes_eq l.text text) refl h;
  given = λ m g. rw (same m) (rw (same_bytes text) refl);
  kind = λ m g. rw (same m) (rw (same_bytes text) refl);
}
  where
    by_test : (l : Placed) (x : ℕ) (b : Bool) → bytes_eq l.text text ≡ b → cond b (Some l.at) None ≡ Some x → (m : Mark) × (true ≡ true) × (l ≡ (slot m).lexeme) × (x ≡ m.at)
    by_test l x true k h = (mark_of l, refl, marked_is l text (text_is l.text text k) ∙ sym (same (mark_of l)), cc)
    by_test l x false k h = absurd (cc)

fixed_is : (text : List ℕ) (w : Wanted) (d : ℕ) (ts : List Placed) → token_at (sign_take text) w d ts ≡ sign_at text w d ts
unfolding sign_take
fixed_is text w d [] = refl
fixed_is text w d (t ∷ ts) = by_test (bytes_eq t.text text)
  where
    by_test : (b : Bool) → token_by (cond b (Some t.at) None) w ts ≡ cond b (reads (t.at, ts)) (leaves (length ts + 1) w)
    by_test true = refl
    by_test false = refl

slot_exact : (slot : Mark → Slot) (text : List ℕ) → ((m : Mark) → (slot m).lexeme ≡ marked text m) → (w : Wanted)
    → IsExact (single slot (λ m. true) (λ m. m.at)) (words (text ∷ []) ∷ []) false [] (sign_at text w)
slot_exact slot text same w =
    subst (IsExact (single slot (λ m. true) (λ m. m.at)) (words (text ∷ []) ∷ []) false []) (fun_ext (λ d. fun_ext (λ ts. fixed_is text w d ts))) (token_exact (sign_takes slot text same) w)

pub sign_exact : (role : Role) (text : List ℕ) (w : Wanted) → IsExact (sign role text) (words (text ∷ []) ∷ []) false [] (sign_at text w)
sign_exact role text w = slot_exact (fixed role text) text (λ m. refl) w

-- one that ends a type
pub ending_exact : (role : Role) (text : List ℕ) (w : Wanted) → IsExact (single (λ m. last_of_type role (marked text m)) (λ m. true) (λ m. m.at)) (words (text ∷ []) ∷ []) false [] (sign_at text w)
ending_exact role text w = slot_exact (λ m. last_of_type role (marked text m)) text (λ m. refl) w

some_same : {A : Type 0} (x y : A) → Some x ≡ Some y → x ≡ y
some_same x y h = cc

-- ---- %r =

result_name_parts : IsExact (both (one plain (λ l. is_local l.text) tree.name_at) (λ l. both (sign plain (codes "=")) (λ m. nothing (tree.name_at l)))) (local ∷ []) false [] result_name_at
result_name_parts =
    both_exact (local_exact (wanted roles.Plain)) (λ name l g e. both_exact (sign_exact plain (codes "=") (wanted roles.Plain)) (λ at m h f. done_exact name (tree.name_at l) e) refl) refl

pub result_name_exact : IsExact a_result_name (local ∷ []) false [] result_name_at
result_name_exact =
    same_exact result_name_parts
    (λ t g. record {
      other = record { name = t.0; equal = t.1.0 };
      is_one = (and_parts (is_local t.0.text) true g).0;
      same = record { spelled = λ ts. refl; means = refl; nests = refl };
    })
    (λ u g. record {
      other = (u.name, (u.equal, tt));
      is_one = and_from (is_local u.name.text) true g refl;
      same = record { spelled = λ ts. refl; means = refl; nests = refl };
    })

-- ---- operands

number_kind : (width : Option ℕ) (t : List ℕ) → is_number_for width t ≡ true → is_number t ≡ true
number_kind (Some n) t h = (and_parts (is_number t) _ h).0
number_kind None t h = h

operand_kind : (width : Option ℕ) (t : List ℕ) → is_operand_for width t ≡ true → is_in operand_kinds t ≡ true
operand_kind width t h =
    elim (or_cases (is_name_or_word t) (is_number_for width t) h) [
      | inl x ↦ name_kind x
      | inr x ↦ in_tail local (global ∷ words constant_words ∷ number ∷ []) t (in_tail global (words constant_words ∷ number ∷ []) t (in_tail (words constant_words) (number ∷ []) t (in_head number [] t (number_kind width t x))))
    ]
  where
    name_kind : is_name_or_word t ≡ true → is_in operand_kinds t ≡ true
    name_kind x =
        elim (or_cases (is_local t || is_global t) (is_one_of constant_words t) x) [
          | inl y ↦ elim (or_cases (is_local t) (is_global t) y) [
            | inl z ↦ in_head local (global ∷ words constant_words ∷ number ∷ []) t z
            | inr z ↦ in_tail local (global ∷ words constant_words ∷ number ∷ []) t (in_head global (words constant_words ∷ number ∷ []) t z)
          ]
          | inr y ↦ in_tail local (global ∷ words constant_words ∷ number ∷ []) t
              (in_tail global (words constant_words ∷ number ∷ []) t (in_head (words constant_words) (number ∷ []) t y))
        ]

pub operand_exact : (width : Option ℕ) (w : Wanted) → IsExact (an_operand width) operand_kinds false [] (operand_at width w)
operand_exact width w = taken_exact operand (is_operand_for width) tree.operand_of operand_kinds (codes "%a") refl (operand_kind width) w

-- ---- types of values

-- the lexeme of an integer or of `ptr`
scalar_slot : TypeTree → Slot
scalar_slot (integer width at) = last_of_type value_type (marked (integer_text width) at)
scalar_slot (pointer at) = last_of_type value_type (marked (codes "ptr") at)
scalar_slot (array opening n by element closing) = last_of_type value_type (marked (codes "ptr") opening)
scalar_slot (structure opening first more closing) = last_of_type value_type (marked (codes "ptr") opening)
scalar_slot (named name) = last_of_type value_type name

-- the lexeme of such a type is that of its spelling
scalar_spelled : (t : TypeTree) → is_value_type t ≡ true → (ts : List Slot) → lexemes_of (scalar_slot t ∷ ts) ≡ lexemes_of (spelled_type value_type t ts)
unfolding scalar_slot
scalar_spelled (integer width at) g ts = refl
scalar_spelled (pointer at) g ts = refl
scalar_spelled (array opening n by element closing) g ts = absurd (cc)
scalar_spelled (structure opening first more closing) g ts = absurd (cc)
scalar_spelled (named name) g ts = absurd (cc)

-- an integer's width tells it from the others
int_not : {A : Type 0} (n : ℕ) (t : Ty) → integer_width t ≡ None → ty.Int n ≡ t → A
int_not n t h e = let z : Some n ≡ None = sym (width-Int n) ∙ (ap integer_width e ∙ h) in absurd (cc)

scalar_known : (n : ℕ) (text : List ℕ) (o : Option ℕ) → simple_by o text ≡ Some (ty.Int n) → scalar_by o text ≡ Some (ty.Int n)
scalar_known n text (Some m) h = h
scalar_known n text None h = by_word (bytes_eq text (codes "ptr")) (is_local text) h
  where
    by_word : (a b : Bool) → cond a (Some ty.Ptr) (cond b (Some (ty.Named (name_of (name_bytes text)))) None) ≡ Some (ty.Int n) → cond a (Some ty.Ptr) None ≡ Some (ty.Int n)
    by_word true b k = k
    by_word false true k = int_not n (ty.Named (name_of (name_bytes text))) (width-Named (name_of (name_bytes text))) (some_same _ _ (sym k))
    by_word false false k = absurd (cc)

scalar_given : (t : TypeTree) → is_value_type t ≡ true → scalar_of ((scalar_slot t).lexeme) ≡ Some (tree.type_at t)
unfolding scalar_slot
scalar_given (integer width at) g = ap (λ o. scalar_in o (marked (integer_text width) at)) (scalar_known width (integer_text width) (entry_of integer_words (integer_text width)) (simple_integer width g))
scalar_given (pointer at) g = refl
scalar_given (array opening n by element closing) g = absurd (cc)
scalar_given (structure opening first more closing) g = absurd (cc)
scalar_given (named name) g = absurd (cc)

integer_kind : (a b c d : Bool) → is_in value_type_kinds (cond a (codes "i1") (cond b (codes "i8") (cond c (codes "i16") (cond d (codes "i32") (codes "i64"))))) ≡ true
integer_kind true b c d = refl
integer_kind false true c d = refl
integer_kind false false true d = refl
integer_kind false false false true = refl
integer_kind false false false false = refl

scalar_kind : (t : TypeTree) → is_value_type t ≡ true → is_in value_type_kinds ((scalar_slot t).lexeme.text) ≡ true
unfolding scalar_slot
scalar_kind (integer width at) g = integer_kind (nat_eq width 1) (nat_eq width 8) (nat_eq width 16) (nat_eq width 32)
scalar_kind (pointer at) g = refl
scalar_kind (array opening n by element closing) g = absurd (cc)
scalar_kind (structure opening first more closing) g = absurd (cc)
scalar_kind (named name) g = absurd (cc)

-- a lexeme is that of a value's type, which is this
Scalar : Placed → TypeAt → Type 0
Scalar l x = (t : TypeTree) × (is_value_type t ≡ true) × (l ≡ (scalar_slot t).lexeme) × (x ≡ tree.type_at t)

scalar_integer : (l : Placed) (n : ℕ) (w : TypeTree) → is_type w ≡ true → l ∷ [] ≡ lexemes_of (spelled_type value_type w []) → ty.Int n ≡ tree.type_of w → spot l.at ≡ spot (tree.start_of w) → [] ≡ tree.leaves_of w
    → Scalar l (record { ty = ty.Int n; at = spot l.at; leaves = [] })
unfolding Scalar scalar_slot
scalar_integer l n (integer width at) g s t a e = (integer width at, g, cc, made_is _ _ _ _ _ _ t a e)
scalar_integer l n (pointer at) g s t a e = int_not n ty.Ptr width-Ptr t
scalar_integer l n (array opening m by element closing) g s t a e = int_not n (tree.type_of (array opening m by element closing)) (width-Array _ _) t
scalar_integer l n (structure opening first more closing) g s t a e = int_not n (tree.type_of (structure opening first more closing)) (width-Struct _) t
scalar_integer l n (named name) g s t a e = int_not n (tree.type_of (named name)) (width-Named _) t

scalar_by_entry : (l : Placed) (x : TypeAt) (o : Option ℕ) → entry_of integer_words l.text ≡ o → scalar_in (scalar_by o l.text) l ≡ Some x → Scalar l x
unfolding Scalar scalar_slot
scalar_by_entry l x (Some n) k h =
    let i = simple_sound l (ty.Int n) (ap (λ o. simple_by o l.text) k) in
    subst (λ z. Scalar l z) (some_same _ _ h) (scalar_integer l n i.written i.grammar (i.spelled value_type []) i.ty_is i.at_is i.leaves_is)
scalar_by_entry l x None k h = by_word (bytes_eq l.text (codes "ptr")) refl h
  where
    by_word : (b : Bool) → bytes_eq l.text (codes "ptr") ≡ b → scalar_in (cond b (Some ty.Ptr) None) l ≡ Some x → Scalar l x
    by_word true m e = (pointer (mark_of l), refl, marked_is l (codes "ptr") (text_is l.text (codes "ptr") m), sym (some_same _ _ e))
    by_word false m e = absurd (cc)

scalar_takes : Takes scalar_slot is_value_type tree.type_at value_type_kinds scalar_of
unfolding Scalar
scalar_takes = record {
  some = pointer no_mark;
  some_is = refl;
  found = λ l x h. scalar_by_entry l x (entry_of integer_words l.text) refl h;
  given = scalar_given;
  kind = scalar_kind;
}

pub value_type_exact : (w : Wanted) → IsExact a_value_type value_type_kinds false [] (value_type_at w)
value_type_exact w =
    same_exact (token_exact scalar_takes w)
    (λ t g. record { other = t; is_one = g; same = record { spelled = scalar_spelled t g; means = refl; nests = refl } })
    (λ t g. record { other = t; is_one = g; same = record { spelled = λ ts. sym (scalar_spelled t g ts); means = refl; nests = refl } })

-- ---- an operand behind its type

-- an operand by a type's tree is one by its width
pub operand_same : (t : TypeTree) (text : List ℕ) → is_operand_at t text ≡ is_operand_for (integer_width (tree.type_of t)) text
operand_same (integer width at) text = ap (λ z. is_operand_for z text) (sym (width-Int width))
operand_same (pointer at) text = ap (λ z. is_operand_for z text) (sym width-Ptr)
operand_same (array opening n by element closing) text = ap (λ z. is_operand_for z text) (sym (width-Array (digits_value n.text) (tree.type_of element)))
operand_same (structure opening first more closing) text = ap (λ z. is_operand_for z text) (sym (width-Struct (tree.type_of first ∷ tree.types_of more)))
operand_same (named name) text = ap (λ z. is_operand_for z text) (sym (width-Named (name_of (name_bytes name.text))))

pub operand_exact_at : (v u : Option ℕ) → v ≡ u → (w : Wanted) → IsExact (an_operand u) operand_kinds false [] (operand_at v w)
operand_exact_at v u e w = subst (λ z. IsExact (an_operand u) operand_kinds false [] (operand_at z w)) (sym e) (operand_exact u w)

pub width_same : (x y : TypeAt) → x ≡ y → integer_width x.ty ≡ integer_width y.ty
width_same x y e = ap (λ (z : TypeAt). integer_width z.ty) e

typed_made : (x y : TypeAt) (o p : Operand) → x ≡ y → o ≡ p → ◌≡◌ {A = TypedOperand} (record { ty = x; operand = o }) (record { ty = y; operand = p })
typed_made x y o p e f = cc

any_typed_parts : (role : Role) (w : Wanted)
    → IsExact (both (a_type role) (λ t. both (an_operand (integer_width (tree.type_of t))) (λ l. nothing (tree.typed_of (record { ty = t; value = l }))))) type_kinds false [] (any_typed_at w)
any_typed_parts role w =
    both_exact (type_exact role w) (λ x t g e. both_exact (operand_exact_at _ _ (width_same x (tree.type_at t) e) (behind roles.Operand)) (λ o l h f. done_exact _ _ (typed_made x (tree.type_at t) o (tree.operand_of l) e f)) refl) refl

pub any_typed_exact : (role : Role) (w : Wanted) → IsExact (a_typed role) type_kinds false [] (any_typed_at w)
any_typed_exact role w =
    same_exact (any_typed_parts role w)
    (λ t g. record {
      other = record { ty = t.0; value = t.1.0 };
      is_one = let p = and_parts (is_type t.0) _ g in and_from (is_type t.0) _ p.0 (operand_same t.0 t.1.0.text ∙ (and_parts (is_operand_for (integer_width (tree.type_of t.0)) t.1.0.text) true p.1).0);
      same = record { spelled = λ ts. refl; means = refl; nests = omega arith };
    })
    (λ u g. record {
      other = (u.ty, (u.value, tt));
      is_one = let p = and_parts (is_type u.ty) (is_operand_at u.ty u.value.text) g in and_from (is_type u.ty) _ p.0 (and_from _ true (sym (operand_same u.ty u.value.text) ∙ p.1) refl);
      same = record { spelled = λ ts. refl; means = refl; nests = omega arith };
    })

value_parts : (w : Wanted)
    → IsExact (both a_value_type (λ t. both (an_operand (integer_width (tree.type_of t))) (λ l. nothing (tree.typed_of (record { ty = t; value = l }))))) value_type_kinds false [] (value_at w)
value_parts w =
    both_exact (value_type_exact w) (λ x t g e. both_exact (operand_exact_at _ _ (width_same x (tree.type_at t) e) (behind roles.Operand)) (λ o l h f. done_exact _ _ (typed_made x (tree.type_at t) o (tree.operand_of l) e f)) refl) refl

pub value_exact : (w : Wanted) → IsExact a_value value_type_kinds false [] (value_at w)
value_exact w =
    same_exact (value_parts w)
    (λ t g. record {
      other = record { ty = t.0; value = t.1.0 };
      is_one = let p = and_parts (is_value_type t.0) _ g in and_from (is_value_type t.0) _ p.0 (operand_same t.0 t.1.0.text ∙ (and_parts (is_operand_for (integer_width (tree.type_of t.0)) t.1.0.text) true p.1).0);
      same = record { spelled = λ ts. refl; means = refl; nests = omega arith };
    })
    (λ u g. record {
      other = (u.ty, (u.value, tt));
      is_one = let p = and_parts (is_value_type u.ty) (is_operand_at u.ty u.value.text) g in and_from (is_value_type u.ty) _ p.0 (and_from _ true (sym (operand_same u.ty u.value.text) ∙ p.1) refl);
      same = record { spelled = λ ts. refl; means = refl; nests = omega arith };
    })
