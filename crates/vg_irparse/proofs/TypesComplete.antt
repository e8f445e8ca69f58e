-- Each type of the grammar is read.
use Rattle.std.proofs.Common.{◌≡◌, ℕ, zero, suc, ◌+◌, ◌-◌, ◌<◌, ◌≤◌, max, Bool, true, false, not, ◌&&◌, ◌||◌, ◌==◌, nat_eq, nat_lt, Option, Some, None, List, [], ◌∷◌, ◌++◌, length, codes, refl, sym, ap, subst, ◌∙◌, arith, append_assoc, IsTrue}
use Rattle.std.proofs.lemmas.Bool.Decides.{nat_tests}
use Rattle.std.proofs.lemmas.Bool.{and_parts as both}
use Rattle.std.proofs.lemmas.List.{append-nil}
use Rattle.std.specs.Str.{bytes_eq}
use Rattle.vg_ir.specs.declared.ty.Ty.{Ty}
use Rattle.vg_ir.specs.declared.ty.Ty.TheVariants as ty
use Rattle.vg_ir.specs.declared.spot.Spot.{Spot}
use Rattle.vg_ir.specs.Shape.{is_integer_width}
use Rattle.vg_irparse.specs.declared.role.Role.{Role}
use Rattle.vg_irparse.specs.declared.role.Role.TheVariants as roles
use Rattle.vg_irparse.specs.declared.role.Wanted.{Wanted}
use Rattle.vg_irparse.specs.declared.part.Part.{Part}
use Rattle.vg_irparse.specs.Placed.{Placed, Mark, Slot, free, fixed, word, marked, last_of_type, plain, any_type, lexemes_of}
use Rattle.vg_irparse.specs.Text.{is_local, digits_value, name_bytes, name_of, spot}
use Rattle.vg_irparse.specs.Words.{entry_of, integer_words}
use Rattle.vg_irparse.specs.Concrete.{TypeTree, integer, pointer, array, structure, named, MoreTypes, no_more_type, one_more_type}
use Rattle.vg_irparse.specs.Spelling.{integer_text, spelled_type, spelled_more_types}
use Rattle.vg_irparse.specs.Grammar.{is_length, is_type, are_more_types}
use Rattle.vg_irparse.specs.Tree as tree
use Rattle.vg_irparse.specs.Answer.{Answer, reads, leaves, too_deep}
use Rattle.vg_irparse.specs.ReadingType.{Reader, wanted, simple_type, part_by, length_at, array_at, field_at, fields_at, bracketed_at, part_within, type_by, type_at, most_brackets}
use Rattle.vg_irparse.specs.ExactType.{nesting, nesting_more, TypeIsComplete}

-- ---- types of one lexeme

width_by : (n : ℕ) (P : ℕ → Type 0) → is_integer_width n ≡ true → P 1 → P 8 → P 16 → P 32 → P 64
    → (x y z u : Bool) → nat_eq n 1 ≡ x → nat_eq n 8 ≡ y → nat_eq n 16 ≡ z → nat_eq n 32 ≡ u → P n
width_by n P h a b c d e true y z u hx hy hz hu = let k : 1 ≡ n = grind (arith, nat_tests) in subst P k a
width_by n P h a b c d e false true z u hx hy hz hu = let k : 8 ≡ n = grind (arith, nat_tests) in subst P k b
width_by n P h a b c d e false false true u hx hy hz hu = let k : 16 ≡ n = grind (arith, nat_tests) in subst P k c
width_by n P h a b c d e false false false true hx hy hz hu = let k : 32 ≡ n = grind (arith, nat_tests) in subst P k d
width_by n P h a b c d e false false false false hx hy hz hu = let k : 64 ≡ n = grind (arith, nat_tests) in subst P k e

width_cases : (n : ℕ) (P : ℕ → Type 0) → is_integer_width n ≡ true → P 1 → P 8 → P 16 → P 32 → P 64 → P n
width_cases n P h a b c d e = width_by n P h a b c d e (nat_eq n 1) (nat_eq n 8) (nat_eq n 16) (nat_eq n 32) refl refl refl refl

pub simple_integer : (n : ℕ) → is_integer_width n ≡ true → simple_type (integer_text n) ≡ Some (ty.Int n)
simple_integer n h = width_cases n (λ m. simple_type (integer_text m) ≡ Some (ty.Int m)) h refl refl refl refl refl

pub simple_pointer : simple_type (codes "ptr") ≡ Some ty.Ptr
simple_pointer = refl

simple_local_by : (c : ℕ) (cs : List ℕ) (b : Bool) → (c == 37) ≡ b → is_local (c ∷ cs) ≡ true → simple_type (c ∷ cs) ≡ Some (ty.Named (name_of (name_bytes (c ∷ cs))))
simple_local_by c cs true k h =
    let e : 37 ≡ c = grind (arith, nat_tests) in
    let P : ℕ → Type 0 = λ z. is_local (z ∷ cs) ≡ true → simple_type (z ∷ cs) ≡ Some (ty.Named (name_of (name_bytes (z ∷ cs)))) in
    let at37 : is_local (37 ∷ cs) ≡ true → simple_type (37 ∷ cs) ≡ Some (ty.Named (name_of (name_bytes (37 ∷ cs)))) = λ i. rw i refl in
    subst P e at37 h
simple_local_by c cs false k h = let e : is_local (c ∷ cs) ≡ false = rw k refl in absurd (cc)

pub simple_local : (text : List ℕ) → is_local text ≡ true → simple_type text ≡ Some (ty.Named (name_of (name_bytes text)))
simple_local [] h = absurd (cc)
simple_local (c ∷ cs) h = simple_local_by c cs (c == 37) refl h

-- a type of one lexeme is read as itself
pub simple_part : (d : ℕ) (w : Wanted) (first : Placed) (ts : List Placed) (t : Ty) → 0 < d → simple_type first.text ≡ Some t
    → part_within d w (first ∷ ts) ≡ reads (record { ty = t; leaves = spot first.at ∷ [] }, ts)
unfolding part_within
simple_part zero w first ts t p h = absurd (omega arith)
simple_part (suc d) w first ts t p h = rw h refl

bracket_part : (d : ℕ) (w : Wanted) (first : Placed) (ts : List Placed) → simple_type first.text ≡ None
    → part_within (suc d) w (first ∷ ts) ≡ bracketed_at (part_within d) w first ts
unfolding part_within
bracket_part d w first ts h = rw h refl

-- ---- types with parts, by the reader of their parts

array_read : (read : Reader) (n : Placed) (by closing : Mark) (element : Part) (ts rest : List Placed) → is_length n.text ≡ true
    → read (wanted roles.AnyType) ts ≡ reads (element, marked (codes "]") closing ∷ rest)
    → array_at read (n ∷ marked (codes "x") by ∷ ts) ≡ reads (record { ty = ty.Array (digits_value n.text) element.ty; leaves = element.leaves }, rest)
unfolding array_at
array_read read n by closing element ts rest h e = rw (h, e) refl

field_more : (read : Reader) (field : Part) (comma : Mark) (ts rest : List Placed) → read (wanted roles.AnyType) ts ≡ reads (field, marked (codes ",") comma ∷ rest)
    → field_at read ts ≡ reads ((field, false), rest)
unfolding field_at
field_more read field comma ts rest h = rw h refl

field_last : (read : Reader) (field : Part) (closing : Mark) (ts rest : List Placed) → read (wanted roles.AnyType) ts ≡ reads (field, marked (codes "}") closing ∷ rest)
    → field_at read ts ≡ reads ((field, true), rest)
unfolding field_at
field_last read field closing ts rest h = rw h refl

fields_last : (read : Reader) (fuel : ℕ) (types : List Ty) (spots : List Spot) (field : Part) (ts rest : List Placed) → field_at read ts ≡ reads ((field, true), rest)
    → fields_at (suc fuel) read types spots ts ≡ reads (record { ty = ty.Struct (types ++ field.ty ∷ []); leaves = spots ++ field.leaves }, rest)
unfolding fields_at
fields_last read fuel types spots field ts rest h = rw h refl

fields_more : (read : Reader) (fuel : ℕ) (types : List Ty) (spots : List Spot) (field : Part) (ts rest : List Placed) → field_at read ts ≡ reads ((field, false), rest)
    → fields_at (suc fuel) read types spots ts ≡ fields_at fuel read (types ++ field.ty ∷ []) (spots ++ field.leaves) rest
unfolding fields_at
fields_more read fuel types spots field ts rest h = rw h refl

-- ---- lengths

-- how many types stand behind the first
abbrev types_count : MoreTypes → ℕ
types_count no_more_type = 0
types_count (one_more_type comma t more) = types_count more + 1

mutual
  type_len : (t : TypeTree) (r : Role) (ts : List Slot) → length (lexemes_of ts) + 1 ≤ length (lexemes_of (spelled_type r t ts))
  type_len (integer width at) r ts = omega arith
  type_len (pointer at) r ts = omega arith
  type_len (array opening n by element closing) r ts =
      let i = type_len element any_type (last_of_type plain (marked (codes "]") closing) ∷ ts) in omega (arith, i)
  type_len (structure opening first more closing) r ts =
      let j = types_len more (last_of_type plain (marked (codes "}") closing) ∷ ts) in
      let i = type_len first any_type (spelled_more_types more (last_of_type plain (marked (codes "}") closing) ∷ ts)) in
      omega (arith, i, j)
  type_len (named name) r ts = omega arith

  types_len : (more : MoreTypes) (ts : List Slot) → length (lexemes_of ts) + types_count more ≤ length (lexemes_of (spelled_more_types more ts))
  types_len no_more_type ts = omega arith
  types_len (one_more_type comma t more) ts =
      let j = types_len more ts in
      let i = type_len t any_type (spelled_more_types more ts) in
      omega (arith, i, j)

-- ---- each type is read

-- what is read of a type
abbrev pub part_of : TypeTree → Part
part_of t = record { ty = tree.type_of t; leaves = tree.all_leaves t }

abbrev struct_of : List Ty → List Spot → List Placed → Answer (Part × List Placed)
struct_of types spots rest = reads (record { ty = ty.Struct types; leaves = spots }, rest)

abbrev pub closed : Mark → List Slot → List Slot
closed closing behind = last_of_type plain (marked (codes "}") closing) ∷ behind

pub max_left : (a b d : ℕ) → max a b < d → a < d
max_left a b d h = grind (arith, nat_tests)

pub max_right : (a b d : ℕ) → max a b < d → b < d
max_right a b d h = grind (arith, nat_tests)

-- a type is read where the reader may go d brackets deep
abbrev pub IsRead : ℕ → TypeTree → Type 0
IsRead d t = (w : Wanted) (r : Role) (behind : List Slot) → part_within d w (lexemes_of (spelled_type r t behind)) ≡ reads (part_of t, lexemes_of behind)

pub bracket_array : (read : Reader) (w : Wanted) (opening : Mark) (ts : List Placed) → bracketed_at read w (marked (codes "[") opening) ts ≡ array_at read ts
unfolding bracketed_at
bracket_array read w opening ts = refl

pub bracket_structure : (read : Reader) (w : Wanted) (opening : Mark) (ts : List Placed) → bracketed_at read w (marked (codes "{") opening) ts ≡ fields_at (length ts) read [] [] ts
unfolding bracketed_at
bracket_structure read w opening ts = refl

pub array_complete : (opening : Mark) (m : Placed) (by : Mark) (element : TypeTree) (closing : Mark) → is_length m.text ≡ true → (d : ℕ) → IsRead d element
    → (w : Wanted) (behind : List Slot)
    → bracketed_at (part_within d) w (marked (codes "[") opening) (m ∷ marked (codes "x") by ∷ lexemes_of (spelled_type any_type element (last_of_type plain (marked (codes "]") closing) ∷ behind)))
    ≡ reads (part_of (array opening m by element closing), lexemes_of behind)
array_complete opening m by element closing h d e w behind =
    bracket_array (part_within d) w opening _
    ∙ array_read (part_within d) m by closing (part_of element) _ (lexemes_of behind) h
    (e (wanted roles.AnyType) any_type (last_of_type plain (marked (codes "]") closing) ∷ behind))

-- the fields are read from one on that is read
pub FieldsRead : ℕ → MoreTypes → Type 0
FieldsRead d more = (fuel : ℕ) (types : List Ty) (spots : List Spot) (first : Part) (ts : List Placed) (closing : Mark) (behind : List Slot) → types_count more < fuel
    → part_within d (wanted roles.AnyType) ts ≡ reads (first, lexemes_of (spelled_more_types more (closed closing behind)))
    → fields_at fuel (part_within d) types spots ts ≡ struct_of (types ++ first.ty ∷ tree.types_of more) (spots ++ (first.leaves ++ tree.more_leaves more)) (lexemes_of behind)

no_more_read : (d : ℕ) → FieldsRead d no_more_type
unfolding FieldsRead
no_more_read d zero types spots first ts closing behind n h = absurd (omega arith)
no_more_read d (suc fuel) types spots first ts closing behind n h =
    fields_last (part_within d) fuel types spots first ts (lexemes_of behind) (field_last (part_within d) first closing ts (lexemes_of behind) h)
    ∙ ap (λ z. struct_of (types ++ first.ty ∷ []) (spots ++ z) (lexemes_of behind)) (sym (append-nil first.leaves))

one_more_read : (d : ℕ) (comma : Mark) (t : TypeTree) (more : MoreTypes) → IsRead d t → FieldsRead d more → FieldsRead d (one_more_type comma t more)
unfolding FieldsRead
one_more_read d comma t more i j zero types spots first ts closing behind n h = absurd (omega arith)
one_more_read d comma t more i j (suc fuel) types spots first ts closing behind n h =
    let next = lexemes_of (spelled_type any_type t (spelled_more_types more (closed closing behind))) in
    let f = field_more (part_within d) first comma ts next h in
    let k = j fuel (types ++ first.ty ∷ []) (spots ++ first.leaves) (part_of t) next closing behind (omega arith)
    (i (wanted roles.AnyType) any_type (spelled_more_types more (closed closing behind))) in
    fields_more (part_within d) fuel types spots first ts next f
    ∙ (k
    ∙ (ap (λ z. struct_of z ((spots ++ first.leaves) ++ (tree.all_leaves t ++ tree.more_leaves more)) (lexemes_of behind)) (append_assoc types (first.ty ∷ []) (tree.type_of t ∷ tree.types_of more))
    ∙ ap (λ z. struct_of (types ++ first.ty ∷ tree.type_of t ∷ tree.types_of more) z (lexemes_of behind)) (append_assoc spots first.leaves (tree.all_leaves t ++ tree.more_leaves more))))

pub structure_complete : (opening : Mark) (first : TypeTree) (more : MoreTypes) (closing : Mark) (d : ℕ) → IsRead d first → FieldsRead d more
    → (w : Wanted) (behind : List Slot)
    → bracketed_at (part_within d) w (marked (codes "{") opening) (lexemes_of (spelled_type any_type first (spelled_more_types more (closed closing behind))))
    ≡ reads (part_of (structure opening first more closing), lexemes_of behind)
unfolding FieldsRead
structure_complete opening first more closing d i j w behind =
    let ts = lexemes_of (spelled_type any_type first (spelled_more_types more (closed closing behind))) in
    let m = types_len more (closed closing behind) in
    let l = type_len first any_type (spelled_more_types more (closed closing behind)) in
    bracket_structure (part_within d) w opening ts
    ∙ j (length ts) [] [] (part_of first) ts closing behind (omega (arith, m, l)) (i (wanted roles.AnyType) any_type (spelled_more_types more (closed closing behind)))

mutual
  pub part_complete : (t : TypeTree) → is_type t ≡ true → (d : ℕ) → nesting t < d → IsRead d t
  part_complete (integer width at) h d n w r behind = simple_part d w _ _ (ty.Int width) (omega arith) (simple_integer width h)
  part_complete (pointer at) h d n w r behind = simple_part d w _ _ ty.Ptr (omega arith) simple_pointer
  part_complete (named name) h d n w r behind = simple_part d w _ _ _ (omega arith) (simple_local name.text h)
  part_complete (array opening m by element closing) h zero n w r behind = absurd (omega arith)
  part_complete (array opening m by element closing) h (suc d) n w r behind =
      let p = both (is_length m.text) (is_type element) h in
      bracket_part d w _ _ refl ∙ array_complete opening m by element closing p.0 d (part_complete element p.1 d (omega arith)) w behind
  part_complete (structure opening first more closing) h zero n w r behind = absurd (omega arith)
  part_complete (structure opening first more closing) h (suc d) n w r behind =
      let p = both (is_type first) (are_more_types more) h in
      let m : max (nesting first) (nesting_more more) < d = omega arith in
      bracket_part d w _ _ refl
      ∙ structure_complete opening first more closing d (part_complete first p.0 d (max_left _ _ d m)) (more_complete more p.1 d (max_right _ _ d m)) w behind

  pub more_complete : (more : MoreTypes) → are_more_types more ≡ true → (d : ℕ) → nesting_more more < d → FieldsRead d more
  more_complete no_more_type h d n = no_more_read d
  more_complete (one_more_type comma t more) h d n =
      let p = both (is_type t) (are_more_types more) h in
      one_more_read d comma t more (part_complete t p.0 d (max_left _ _ d n)) (more_complete more p.1 d (max_right _ _ d n))

-- ---- with the place of the whole

pub simple_whole : (w : Wanted) (first : Placed) (ts : List Placed) (t : Ty) → simple_type first.text ≡ Some t
    → type_at w (first ∷ ts) ≡ reads (record { ty = t; at = spot first.at; leaves = [] }, ts)
simple_whole w first ts t h = rw h refl

bracket_whole : (w : Wanted) (first : Placed) (ts : List Placed) (p : Part) (rest : List Placed) → simple_type first.text ≡ None
    → bracketed_at (part_within most_brackets) w first ts ≡ reads (p, rest)
    → type_at w (first ∷ ts) ≡ reads (record { ty = p.ty; at = spot first.at; leaves = p.leaves }, rest)
bracket_whole w first ts p rest h k = rw (h, k) refl

pub type_complete : TypeIsComplete
type_complete (integer width at) h n w r behind = simple_whole w (marked (integer_text width) at) (lexemes_of behind) (ty.Int width) (simple_integer width h)
type_complete (pointer at) h n w r behind = simple_whole w (marked (codes "ptr") at) (lexemes_of behind) ty.Ptr simple_pointer
type_complete (named name) h n w r behind = simple_whole w name (lexemes_of behind) (ty.Named (name_of (name_bytes name.text))) (simple_local name.text h)
type_complete (array opening m by element closing) h n w r behind =
    let p = both (is_length m.text) (is_type element) h in
    bracket_whole w _ _ (part_of (array opening m by element closing)) (lexemes_of behind) refl
    (array_complete opening m by element closing p.0 most_brackets (part_complete element p.1 most_brackets (omega arith)) w behind)
type_complete (structure opening first more closing) h n w r behind =
    let p = both (is_type first) (are_more_types more) h in
    let m : max (nesting first) (nesting_more more) < most_brackets = omega arith in
    bracket_whole w _ _ (part_of (structure opening first more closing)) (lexemes_of behind) refl
    (structure_complete opening first more closing most_brackets (part_complete first p.0 most_brackets (max_left _ _ _ m)) (more_complete more p.1 most_brackets (max_right _ _ _ m)) w behind)
