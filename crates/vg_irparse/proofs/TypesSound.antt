-- What is read as a type is one of the grammar.
use Rattle.std.proofs.Common.{◌≡◌, ◌⊎◌, ℕ, zero, suc, ◌+◌, ◌-◌, ◌<◌, ◌≤◌, max, Bool, true, false, cond, not, ◌&&◌, ◌==◌, nat_lt, Option, Some, None, List, [], ◌∷◌, ◌++◌, length, codes, refl, sym, ap, subst, ◌∙◌, arith, append_assoc, IsTrue, inl, inr}
use Rattle.std.proofs.lemmas.Bool.{and_from as both-from}
use Rattle.std.proofs.lemmas.Bool.Decides.{nat_tests}
use Rattle.std.proofs.lemmas.List.{append-nil}
use Rattle.std.proofs.lemmas.Slice.Eq.{bytes_eq-Decides}
use Rattle.std.specs.Str.{bytes_eq}
use Rattle.vg_ir.specs.declared.ty.Ty.{Ty}
use Rattle.vg_ir.specs.declared.ty.Ty.TheVariants as ty
use Rattle.vg_ir.specs.declared.ty.TypeAt.{TypeAt}
use Rattle.vg_ir.specs.declared.spot.Spot.{Spot}
use Rattle.vg_ir.specs.Shape.{is_integer_width}
use Rattle.vg_irparse.specs.declared.role.Role.{Role}
use Rattle.vg_irparse.specs.declared.role.Role.TheVariants as roles
use Rattle.vg_irparse.specs.declared.role.Wanted.{Wanted}
use Rattle.vg_irparse.specs.declared.part.Part.{Part}
use Rattle.vg_irparse.specs.Placed.{Placed, Mark, Slot, free, fixed, word, marked, last_of_type, plain, any_type, lexemes_of}
use Rattle.vg_irparse.specs.Text.{is_local, digits_value, name_bytes, name_of, spot}
use Rattle.vg_irparse.specs.Words.{entry_of, integer_words}
use Rattle.vg_irparse.specs.Concrete.{TypeTree, integer, pointer, array, structure, named, MoreTypes, no_more_type, one_more_type}
use Rattle.vg_irparse.specs.Spelling.{integer_text, spelled_type, spelled_more_types}
use Rattle.vg_irparse.specs.Grammar.{is_length, is_type, are_more_types}
use Rattle.vg_irparse.specs.Tree as tree
use Rattle.vg_irparse.specs.Answer.{Answer, reads, leaves, too_deep, ◌>>=◌}
use Rattle.vg_irparse.specs.Taking.{fixed_at, separator_at}
use Rattle.vg_irparse.specs.ReadingType.{Reader, wanted, behind_type, simple_by, simple_type, part_by, length_at, array_at, field_at, fields_at, bracketed_at, part_within, type_by, type_at, most_brackets}
use Rattle.vg_irparse.specs.ExactType.{nesting, nesting_more, IsTypeOf, TypeIsSound}

-- ---- answers

pub not_reads : {A B : Type 0} {n : ℕ} {w : Wanted} {y : A} → leaves n w ≡ reads y → B
not_reads h = absurd (cc)

pub not_deep : {A B : Type 0} {y : A} → too_deep ≡ reads y → B
not_deep h = absurd (cc)

-- what a step gave, and what the steps behind it gave
bind : {A B : Type 0} (o : Answer A) (f : A → Answer B) (y : B) (P : Type 0) → (o >>= f) ≡ reads y → ((x : A) → o ≡ reads x → f x ≡ reads y → P) → P
bind (reads x) f y P h k = k x refl h
bind (leaves n w) f y P h k = not_reads h
bind too_deep f y P h k = not_deep h

pub same : {A : Type 0} (x y : A) → reads x ≡ reads y → x ≡ y
same x y h = cc

-- ---- lexemes

pub text_is : (a b : List ℕ) → bytes_eq a b ≡ true → a ≡ b
text_is a b h = (bytes_eq-Decides a b).0 h

-- where a lexeme stands
abbrev pub mark_of : Placed → Mark
mark_of t = record { at = t.at; fresh = t.fresh }

pub marked_is : (t : Placed) (text : List ℕ) → t.text ≡ text → t ≡ marked text (mark_of t)
marked_is t text h = ap (λ z. marked z (mark_of t)) h

-- these bytes stand in front
pub record IsFixed (text : List ℕ) (ts rest : List Placed) : Type 0 where
  pub mark : Mark
  pub whole : ts ≡ marked text mark ∷ rest

fixed_by : (b : Bool) (text : List ℕ) (w : Wanted) (t : Placed) (ts : List Placed) (x : ℕ × List Placed) → bytes_eq t.text text ≡ b → fixed_at text w (t ∷ ts) ≡ reads x → IsFixed text (t ∷ ts) x.1
fixed_by true text w t ts x k h =
    let e : reads (t.at, ts) ≡ reads x = sym (rw k refl) ∙ h in
    let f = same (t.at, ts) x e in
    record { mark = mark_of t; whole = ap (λ z. z ∷ ts) (marked_is t text (text_is t.text text k)) ∙ ap (λ (z : ℕ × List Placed). marked text (mark_of t) ∷ z.1) f }
fixed_by false text w t ts x k h = let e : leaves (length ts + 1) w ≡ reads x = sym (rw k refl) ∙ h in not_reads e

pub fixed_sound : (text : List ℕ) (w : Wanted) (ts : List Placed) (x : ℕ × List Placed) → fixed_at text w ts ≡ reads x → IsFixed text ts x.1
fixed_sound text w [] x h = not_reads h
fixed_sound text w (t ∷ ts) x h = fixed_by (bytes_eq t.text text) text w t ts x refl h

separator_by : (a b : Bool) (text : List ℕ) (w : Wanted) (t : Placed) (ts : List Placed) (x : Bool × List Placed) → bytes_eq t.text text ≡ a → bytes_eq t.text (codes ",") ≡ b
    → separator_at text w (t ∷ ts) ≡ reads x → ((x.0 ≡ true) × IsFixed text (t ∷ ts) x.1) ⊎ ((x.0 ≡ false) × IsFixed (codes ",") (t ∷ ts) x.1)
separator_by true b text w t ts x k l h =
    let e : reads (true, ts) ≡ reads x = sym (rw k refl) ∙ h in
    let f = same (true, ts) x e in
    inl (
      sym (ap (λ (z : Bool × List Placed). z.0) f),
      record { mark = mark_of t; whole = ap (λ z. z ∷ ts) (marked_is t text (text_is t.text text k)) ∙ ap (λ (z : Bool × List Placed). marked text (mark_of t) ∷ z.1) f },
    )
separator_by false true text w t ts x k l h =
    let e : reads (false, ts) ≡ reads x = sym (rw (k, l) refl) ∙ h in
    let f = same (false, ts) x e in
    inr (
      sym (ap (λ (z : Bool × List Placed). z.0) f),
      record { mark = mark_of t; whole = ap (λ z. z ∷ ts) (marked_is t (codes ",") (text_is t.text (codes ",") l)) ∙ ap (λ (z : Bool × List Placed). marked (codes ",") (mark_of t) ∷ z.1) f },
    )
separator_by false false text w t ts x k l h = let e : leaves (length ts + 1) w ≡ reads x = sym (rw (k, l) refl) ∙ h in not_reads e

pub separator_sound : (text : List ℕ) (w : Wanted) (ts : List Placed) (x : Bool × List Placed) → separator_at text w ts ≡ reads x
    → ((x.0 ≡ true) × IsFixed text ts x.1) ⊎ ((x.0 ≡ false) × IsFixed (codes ",") ts x.1)
separator_sound text w [] x h = not_reads h
separator_sound text w (t ∷ ts) x h = separator_by (bytes_eq t.text text) (bytes_eq t.text (codes ",")) text w t ts x refl refl h

pub record IsLength (ts : List Placed) (n : ℕ) (rest : List Placed) : Type 0 where
  pub number : Placed
  pub is_one : is_length number.text ≡ true
  pub whole : ts ≡ number ∷ rest
  pub value : n ≡ digits_value number.text

length_by : (b : Bool) (t : Placed) (ts : List Placed) (x : ℕ × List Placed) → is_length t.text ≡ b → length_at (t ∷ ts) ≡ reads x → IsLength (t ∷ ts) x.0 x.1
length_by true t ts x k h =
    let e : reads (digits_value t.text, ts) ≡ reads x = sym (rw k refl) ∙ h in
    let f = same (digits_value t.text, ts) x e in
    record { number = t; is_one = k; whole = ap (λ (z : ℕ × List Placed). t ∷ z.1) f; value = sym (ap (λ (z : ℕ × List Placed). z.0) f) }
length_by false t ts x k h = let e : leaves (length ts + 1) (wanted roles.Plain) ≡ reads x = sym (rw k refl) ∙ h in not_reads e

pub length_sound : (ts : List Placed) (x : ℕ × List Placed) → length_at ts ≡ reads x → IsLength ts x.0 x.1
length_sound [] x h = not_reads h
length_sound (t ∷ ts) x h = length_by (is_length t.text) t ts x refl h

-- ---- types of one lexeme

-- a concrete tree of one lexeme
pub record IsSimple (first : Placed) (t : Ty) : Type 0 where
  pub written : TypeTree
  pub grammar : is_type written ≡ true
  pub spelled : (r : Role) (behind : List Slot) → first ∷ lexemes_of behind ≡ lexemes_of (spelled_type r written behind)
  pub ty_is : t ≡ tree.type_of written
  pub all_is : spot first.at ∷ [] ≡ tree.all_leaves written
  pub at_is : spot first.at ≡ spot (tree.start_of written)
  pub leaves_is : [] ≡ tree.leaves_of written
  pub flat : nesting written ≡ 0

integer_simple : (first : Placed) (n : ℕ) → integer_text n ≡ first.text → is_integer_width n ≡ true → IsSimple first (ty.Int n)
integer_simple first n e h = record {
  written = integer n (mark_of first);
  grammar = h;
  spelled = λ r behind. ap (λ z. z ∷ lexemes_of behind) (marked_is first (integer_text n) (sym e));
  ty_is = refl;
  all_is = refl;
  at_is = refl;
  leaves_is = refl;
  flat = refl;
}

integer_by : (first : Placed) (n : ℕ) (a b c d e : Bool) → bytes_eq (codes "i1") first.text ≡ a → bytes_eq (codes "i8") first.text ≡ b → bytes_eq (codes "i16") first.text ≡ c
    → bytes_eq (codes "i32") first.text ≡ d → bytes_eq (codes "i64") first.text ≡ e → entry_of integer_words first.text ≡ Some n → IsSimple first (ty.Int n)
integer_by first n true b c d e ha hb hc hd he h =
    let k : 1 ≡ n = (let m : Some 1 ≡ Some n = sym (rw ha refl) ∙ h in cc) in
    subst (λ (z : ℕ). IsSimple first (ty.Int z)) k (integer_simple first 1 (text_is (codes "i1") first.text ha) refl)
integer_by first n false true c d e ha hb hc hd he h =
    let k : 8 ≡ n = (let m : Some 8 ≡ Some n = sym (rw (ha, hb) refl) ∙ h in cc) in
    subst (λ (z : ℕ). IsSimple first (ty.Int z)) k (integer_simple first 8 (text_is (codes "i8") first.text hb) refl)
integer_by first n false false true d e ha hb hc hd he h =
    let k : 16 ≡ n = (let m : Some 16 ≡ Some n = sym (rw (ha, hb, hc) refl) ∙ h in cc) in
    subst (λ (z : ℕ). IsSimple first (ty.Int z)) k (integer_simple first 16 (text_is (codes "i16") first.text hc) refl)
integer_by first n false false false true e ha hb hc hd he h =
    let k : 32 ≡ n = (let m : Some 32 ≡ Some n = sym (rw (ha, hb, hc, hd) refl) ∙ h in cc) in
    subst (λ (z : ℕ). IsSimple first (ty.Int z)) k (integer_simple first 32 (text_is (codes "i32") first.text hd) refl)
integer_by first n false false false false true ha hb hc hd he h =
    let k : 64 ≡ n = (let m : Some 64 ≡ Some n = sym (rw (ha, hb, hc, hd, he) refl) ∙ h in cc) in
    subst (λ (z : ℕ). IsSimple first (ty.Int z)) k (integer_simple first 64 (text_is (codes "i64") first.text he) refl)
integer_by first n false false false false false ha hb hc hd he h =
    absurd (let m : None ≡ Some n = sym (rw (ha, hb, hc, hd, he) refl) ∙ h in cc)

pointer_simple : (first : Placed) → first.text ≡ codes "ptr" → IsSimple first ty.Ptr
pointer_simple first e = record {
  written = pointer (mark_of first);
  grammar = refl;
  spelled = λ r behind. ap (λ z. z ∷ lexemes_of behind) (marked_is first (codes "ptr") e);
  ty_is = refl;
  all_is = refl;
  at_is = refl;
  leaves_is = refl;
  flat = refl;
}

named_simple : (first : Placed) → is_local first.text ≡ true → IsSimple first (ty.Named (name_of (name_bytes first.text)))
named_simple first h = record { written = named first; grammar = h; spelled = λ r behind. refl; ty_is = refl; all_is = refl; at_is = refl; leaves_is = refl; flat = refl }

some_same : {A : Type 0} (x y : A) → Some x ≡ Some y → x ≡ y
some_same x y h = cc

none_not : {A B : Type 0} {y : A} → None ≡ Some y → B
none_not h = absurd (cc)

word_by : (first : Placed) (t : Ty) (p l : Bool) → bytes_eq first.text (codes "ptr") ≡ p → is_local first.text ≡ l → simple_by None first.text ≡ Some t → IsSimple first t
word_by first t true l hp hl h =
    let e : Some ty.Ptr ≡ Some t = sym (rw hp refl) ∙ h in
    subst (IsSimple first) (some_same ty.Ptr t e) (pointer_simple first (text_is first.text (codes "ptr") hp))
word_by first t false true hp hl h =
    let e : Some (ty.Named (name_of (name_bytes first.text))) ≡ Some t = sym (rw (hp, hl) refl) ∙ h in
    subst (IsSimple first) (some_same _ t e) (named_simple first hl)
word_by first t false false hp hl h = let e : None ≡ Some t = sym (rw (hp, hl) refl) ∙ h in none_not e

simple_sound_by : (o : Option ℕ) (first : Placed) (t : Ty) → entry_of integer_words first.text ≡ o → simple_by o first.text ≡ Some t → IsSimple first t
simple_sound_by (Some n) first t k h =
    subst (IsSimple first) (some_same (ty.Int n) t h)
    (integer_by first n (bytes_eq (codes "i1") first.text) (bytes_eq (codes "i8") first.text) (bytes_eq (codes "i16") first.text) (bytes_eq (codes "i32") first.text) (bytes_eq (codes "i64") first.text)
    refl refl refl refl refl k)
simple_sound_by None first t k h = word_by first t (bytes_eq first.text (codes "ptr")) (is_local first.text) refl refl h

pub simple_sound : (first : Placed) (t : Ty) → simple_type first.text ≡ Some t → IsSimple first t
simple_sound first t h = simple_sound_by (entry_of integer_words first.text) first t refl h

-- ---- parts

-- the lexemes begin with a type of the grammar that is this part, and go on with the rest
pub record IsPart (d : ℕ) (ts : List Placed) (found : Part) (rest : List Placed) : Type 0 where
  pub written : TypeTree
  pub grammar : is_type written ≡ true
  pub spelled : (r : Role) (behind : List Slot) → lexemes_of behind ≡ rest → ts ≡ lexemes_of (spelled_type r written behind)
  pub ty_is : found.ty ≡ tree.type_of written
  pub leaves_is : found.leaves ≡ tree.all_leaves written
  pub within : nesting written < d

-- what a reader reads is so
abbrev pub ReadsParts : ℕ → Reader → Type 0
ReadsParts d read = (w : Wanted) (ts : List Placed) (x : Part × List Placed) → read w ts ≡ reads x → IsPart d ts x.0 x.1

-- behind a bracket stands the rest of a type with parts
pub record IsBracketed (d : ℕ) (first : Placed) (ts : List Placed) (found : Part) (rest : List Placed) : Type 0 where
  pub written : TypeTree
  pub grammar : is_type written ≡ true
  pub spelled : (r : Role) (behind : List Slot) → lexemes_of behind ≡ rest → first ∷ ts ≡ lexemes_of (spelled_type r written behind)
  pub ty_is : found.ty ≡ tree.type_of written
  pub all_is : found.leaves ≡ tree.all_leaves written
  pub leaves_is : found.leaves ≡ tree.leaves_of written
  pub at_is : spot first.at ≡ spot (tree.start_of written)
  pub within : nesting written ≤ d

array_is : (d : ℕ) → (first : Placed) (ts : List Placed) (x : Part × List Placed) (n : ℕ × List Placed) (b : ℕ × List Placed) (e : Part × List Placed) (c : ℕ × List Placed)
    → first.text ≡ codes "[" → IsLength ts n.0 n.1 → IsFixed (codes "x") n.1 b.1 → IsPart d b.1 e.0 e.1 → IsFixed (codes "]") e.1 c.1
    → (record { ty = ty.Array n.0 e.0.ty; leaves = e.0.leaves }, c.1) ≡ x → IsBracketed d first ts x.0 x.1
array_is d first ts x n b e c f l m p q h =
    let written : TypeTree = array (mark_of first) l.number m.mark p.written q.mark in
    let made : Part × List Placed = (record { ty = ty.Array n.0 e.0.ty; leaves = e.0.leaves }, c.1) in
    subst (λ (z : Part × List Placed). IsBracketed d first ts z.0 z.1) h (record {
      written = array (mark_of first) l.number m.mark p.written q.mark;
      grammar = both-from (is_length l.number.text) (is_type p.written) l.is_one p.grammar;
      spelled = λ r behind k.
          let inner = p.spelled any_type (last_of_type plain (marked (codes "]") q.mark) ∷ behind) (ap (λ z. marked (codes "]") q.mark ∷ z) k ∙ sym q.whole) in
          ap (λ z. z ∷ ts) (marked_is first (codes "[") f)
          ∙ ap (λ z. marked (codes "[") (mark_of first) ∷ z) (l.whole ∙ ap (λ z. l.number ∷ z) (m.whole ∙ ap (λ z. marked (codes "x") m.mark ∷ z) inner));
      ty_is = ap (λ z. ty.Array z e.0.ty) l.value ∙ ap (λ z. ty.Array (digits_value l.number.text) z) p.ty_is;
      all_is = p.leaves_is;
      leaves_is = p.leaves_is;
      at_is = refl;
      within = omega (arith, p.within);
    })

array_sound : (d : ℕ) → (read : Reader) → ReadsParts d read → (first : Placed) (ts : List Placed) (x : Part × List Placed) → first.text ≡ codes "[" → array_at read ts ≡ reads x → IsBracketed d first ts x.0 x.1
unfolding array_at
array_sound d read s first ts x f h =
    bind (length_at ts) _ x (IsBracketed d first ts x.0 x.1) h (λ n hn h1.
    bind (fixed_at (codes "x") (wanted roles.Plain) n.1) _ x (IsBracketed d first ts x.0 x.1) h1 (λ b hb h2.
    bind (read (wanted roles.AnyType) b.1) _ x (IsBracketed d first ts x.0 x.1) h2 (λ e he h3.
    bind (fixed_at (codes "]") behind_type e.1) _ x (IsBracketed d first ts x.0 x.1) h3 (λ c hc h4.
    array_is d first ts x n b e c f (length_sound ts n hn) (fixed_sound (codes "x") (wanted roles.Plain) n.1 b hb) (s (wanted roles.AnyType) b.1 e he)
    (fixed_sound (codes "]") behind_type e.1 c hc) (same _ x h4)))))

-- ---- structures

-- a field, and what stands behind it: a comma, or the closing brace
pub record IsField (d : ℕ) (ts : List Placed) (found : Part) (last : Bool) (rest : List Placed) : Type 0 where
  pub after : List Placed
  pub part : IsPart d ts found after
  pub end : ((last ≡ true) × IsFixed (codes "}") after rest) ⊎ ((last ≡ false) × IsFixed (codes ",") after rest)

pub field_sound : (d : ℕ) → (read : Reader) → ReadsParts d read → (ts : List Placed) (x : (Part × Bool) × List Placed) → field_at read ts ≡ reads x → IsField d ts x.0.0 x.0.1 x.1
unfolding field_at
field_sound d read s ts x h =
    bind (read (wanted roles.AnyType) ts) _ x (IsField d ts x.0.0 x.0.1 x.1) h (λ f hf h1.
    bind (separator_at (codes "}") behind_type f.1) _ x (IsField d ts x.0.0 x.0.1 x.1) h1 (λ b hb h2.
    let e = same ((f.0, b.0), b.1) x h2 in
    subst (λ (z : (Part × Bool) × List Placed). IsField d ts z.0.0 z.0.1 z.1) e
    (record { after = f.1; part = s (wanted roles.AnyType) ts f hf; end = separator_sound (codes "}") behind_type f.1 b hb })))

-- the fields from one on, up to the closing brace
pub record AreFields (d : ℕ) (ts : List Placed) (types : List Ty) (spots : List Spot) (found : Part) (rest : List Placed) : Type 0 where
  pub first : TypeTree
  pub more : MoreTypes
  pub closing : Mark
  pub grammar : is_type first ≡ true
  pub others : are_more_types more ≡ true
  pub spelled : (behind : List Slot) → lexemes_of behind ≡ rest
      → ts ≡ lexemes_of (spelled_type any_type first (spelled_more_types more (last_of_type plain (marked (codes "}") closing) ∷ behind)))
  pub ty_is : found.ty ≡ ty.Struct (types ++ tree.type_of first ∷ tree.types_of more)
  pub leaves_is : found.leaves ≡ spots ++ (tree.all_leaves first ++ tree.more_leaves more)
  pub within : max (nesting first) (nesting_more more) < d

max_below : (a b d : ℕ) → a < d → b < d → max a b < d
max_below a b d h k = grind (arith, nat_tests)

last_fields : (d : ℕ) → (ts : List Placed) (types : List Ty) (spots : List Spot) (f : Part) (after rest : List Placed) → IsPart d ts f after → IsFixed (codes "}") after rest
    → AreFields d ts types spots (record { ty = ty.Struct (types ++ f.ty ∷ []); leaves = spots ++ f.leaves }) rest
last_fields d ts types spots f after rest p q = record {
  first = p.written;
  more = no_more_type;
  closing = q.mark;
  grammar = p.grammar;
  others = refl;
  spelled = λ behind k. p.spelled any_type (last_of_type plain (marked (codes "}") q.mark) ∷ behind) (ap (λ z. marked (codes "}") q.mark ∷ z) k ∙ sym q.whole);
  ty_is = ap (λ z. ty.Struct (types ++ z ∷ [])) p.ty_is;
  leaves_is = ap (λ z. spots ++ z) (p.leaves_is ∙ sym (append-nil (tree.all_leaves p.written)));
  within = max_below (nesting p.written) 0 d p.within (omega (arith, p.within));
}

next_fields : (d : ℕ) → (ts : List Placed) (types : List Ty) (spots : List Spot) (f : Part) (after rest : List Placed) (found : Part) (end : List Placed) → IsPart d ts f after → IsFixed (codes ",") after rest
    → AreFields d rest (types ++ f.ty ∷ []) (spots ++ f.leaves) found end → AreFields d ts types spots found end
next_fields d ts types spots f after rest found end p q a = record {
  first = p.written;
  more = one_more_type q.mark a.first a.more;
  closing = a.closing;
  grammar = p.grammar;
  others = both-from (is_type a.first) (are_more_types a.more) a.grammar a.others;
  spelled = λ behind k. p.spelled any_type (spelled_more_types (one_more_type q.mark a.first a.more) (last_of_type plain (marked (codes "}") a.closing) ∷ behind))
      (ap (λ z. marked (codes ",") q.mark ∷ z) (sym (a.spelled behind k)) ∙ sym q.whole);
  ty_is = a.ty_is ∙ (ap ty.Struct (append_assoc types (f.ty ∷ []) (tree.type_of a.first ∷ tree.types_of a.more))
      ∙ ap (λ z. ty.Struct (types ++ z ∷ tree.type_of a.first ∷ tree.types_of a.more)) p.ty_is);
  leaves_is = a.leaves_is ∙ (append_assoc spots f.leaves (tree.all_leaves a.first ++ tree.more_leaves a.more)
      ∙ ap (λ z. spots ++ (z ++ (tree.all_leaves a.first ++ tree.more_leaves a.more))) p.leaves_is);
  within = max_below (nesting p.written) (max (nesting a.first) (nesting_more a.more)) d p.within a.within;
}

fields_by : (d : ℕ) → (fuel : ℕ) (read : Reader) (types : List Ty) (spots : List Spot) (ts : List Placed) (f : (Part × Bool) × List Placed) (x : Part × List Placed) (b : Bool) → f.0.1 ≡ b → IsField d ts f.0.0 f.0.1 f.1
    → ((tys : List Ty) (sps : List Spot) (us : List Placed) → fields_at fuel read tys sps us ≡ reads x → AreFields d us tys sps x.0 x.1)
    → cond f.0.1 (reads (record { ty = ty.Struct (types ++ f.0.0.ty ∷ []); leaves = spots ++ f.0.0.leaves }, f.1)) (fields_at fuel read (types ++ f.0.0.ty ∷ []) (spots ++ f.0.0.leaves) f.1) ≡ reads x
    → AreFields d ts types spots x.0 x.1
fields_by d fuel read types spots ts f x true k i go h =
    let made : Part × List Placed = (record { ty = ty.Struct (types ++ f.0.0.ty ∷ []); leaves = spots ++ f.0.0.leaves }, f.1) in
    let e : reads made ≡ reads x = sym (rw k refl) ∙ h in
    let q = elim i.end as (λ _. IsFixed (codes "}") i.after f.1) [ inl y ↦ y.1 | inr y ↦ absurd (let z : false ≡ true = sym y.0 ∙ k in cc) ] in
    subst (λ (z : Part × List Placed). AreFields d ts types spots z.0 z.1) (same made x e) (last_fields d ts types spots f.0.0 i.after f.1 i.part q)
fields_by d fuel read types spots ts f x false k i go h =
    let e : fields_at fuel read (types ++ f.0.0.ty ∷ []) (spots ++ f.0.0.leaves) f.1 ≡ reads x = sym (rw k refl) ∙ h in
    let q = elim i.end as (λ _. IsFixed (codes ",") i.after f.1) [ inl y ↦ absurd (let z : true ≡ false = sym y.0 ∙ k in cc) | inr y ↦ y.1 ] in
    next_fields d ts types spots f.0.0 i.after f.1 x.0 x.1 i.part q (go _ _ f.1 e)

fields_sound : (d : ℕ) → (fuel : ℕ) (read : Reader) → ReadsParts d read → (types : List Ty) (spots : List Spot) (ts : List Placed) (x : Part × List Placed) → fields_at fuel read types spots ts ≡ reads x → AreFields d ts types spots x.0 x.1
unfolding fields_at
fields_sound d zero read s types spots ts x h = not_deep h
fields_sound d (suc fuel) read s types spots ts x h =
    bind (field_at read ts) _ x (AreFields d ts types spots x.0 x.1) h (λ f hf h1.
    fields_by d fuel read types spots ts f x f.0.1 refl (field_sound d read s ts f hf) (λ tys sps us k. fields_sound d fuel read s tys sps us x k) h1)

structure_is : (d : ℕ) → (first : Placed) (ts : List Placed) (found : Part) (rest : List Placed) → first.text ≡ codes "{" → AreFields d ts [] [] found rest → IsBracketed d first ts found rest
structure_is d first ts found rest f a = record {
  written = structure (mark_of first) a.first a.more a.closing;
  grammar = both-from (is_type a.first) (are_more_types a.more) a.grammar a.others;
  spelled = λ r behind k. ap (λ z. z ∷ ts) (marked_is first (codes "{") f) ∙ ap (λ z. marked (codes "{") (mark_of first) ∷ z) (a.spelled behind k);
  ty_is = a.ty_is;
  all_is = a.leaves_is;
  leaves_is = a.leaves_is;
  at_is = refl;
  within = omega (arith, a.within);
}

bracketed_by : (d : ℕ) → (a b : Bool) (read : Reader) → ReadsParts d read → (w : Wanted) (first : Placed) (ts : List Placed) (x : Part × List Placed) → bytes_eq first.text (codes "[") ≡ a → bytes_eq first.text (codes "{") ≡ b
    → bracketed_at read w first ts ≡ reads x → IsBracketed d first ts x.0 x.1
unfolding bracketed_at
bracketed_by d true b read s w first ts x k l h =
    array_sound d read s first ts x (text_is first.text (codes "[") k) (sym (rw k refl) ∙ h)
bracketed_by d false true read s w first ts x k l h =
    structure_is d first ts x.0 x.1 (text_is first.text (codes "{") l) (fields_sound d (length ts) read s [] [] ts x (sym (rw (k, l) refl) ∙ h))
bracketed_by d false false read s w first ts x k l h = let e : leaves (length ts + 1) w ≡ reads x = sym (rw (k, l) refl) ∙ h in not_reads e

pub bracketed_sound : (d : ℕ) → (read : Reader) → ReadsParts d read → (w : Wanted) (first : Placed) (ts : List Placed) (x : Part × List Placed) → bracketed_at read w first ts ≡ reads x → IsBracketed d first ts x.0 x.1
bracketed_sound d read s w first ts x h = bracketed_by d (bytes_eq first.text (codes "[")) (bytes_eq first.text (codes "{")) read s w first ts x refl refl h

part_of_bracketed : (d : ℕ) → (first : Placed) (ts : List Placed) (found : Part) (rest : List Placed) → IsBracketed d first ts found rest → IsPart (d + 1) (first ∷ ts) found rest
part_of_bracketed d first ts found rest b = record { written = b.written; grammar = b.grammar; spelled = b.spelled; ty_is = b.ty_is; leaves_is = b.all_is; within = omega (arith, b.within) }

part_of_simple : (d : ℕ) → (first : Placed) (ts : List Placed) (t : Ty) → IsSimple first t → IsPart (d + 1) (first ∷ ts) (record { ty = t; leaves = spot first.at ∷ [] }) ts
part_of_simple d first ts t s = record {
  written = s.written;
  grammar = s.grammar;
  spelled = λ r behind k. ap (λ z. first ∷ z) (sym k) ∙ s.spelled r behind;
  ty_is = s.ty_is;
  leaves_is = s.all_is;
  within = omega (arith, s.flat);
}

part_by_sound : (d : ℕ) → (o : Option Ty) (read : Reader) → ReadsParts d read → (w : Wanted) (first : Placed) (ts : List Placed) (x : Part × List Placed) → simple_type first.text ≡ o
    → part_by o read w first ts ≡ reads x → IsPart (d + 1) (first ∷ ts) x.0 x.1
part_by_sound d (Some t) read s w first ts x k h =
    subst (λ (z : Part × List Placed). IsPart (d + 1) (first ∷ ts) z.0 z.1) (same (record { ty = t; leaves = spot first.at ∷ [] }, ts) x h) (part_of_simple d first ts t (simple_sound first t k))
part_by_sound d None read s w first ts x k h = part_of_bracketed d first ts x.0 x.1 (bracketed_sound d read s w first ts x h)

pub part_sound : (d : ℕ) → ReadsParts d (part_within d)
unfolding part_within
part_sound zero w ts x h = not_deep h
part_sound (suc d) w [] x h = not_reads h
part_sound (suc d) w (t ∷ ts) x h =
    let e : d + 1 ≡ suc d = omega arith in
    subst (λ (z : ℕ). IsPart z (t ∷ ts) x.0 x.1) e (part_by_sound d (simple_type t.text) (part_within d) (part_sound d) w t ts x refl h)

-- ---- with the place of the whole

abbrev made : Ty → Spot → List Spot → TypeAt
made t a l = record { ty = t; at = a; leaves = l }

pub made_is : (t u : Ty) (a b : Spot) (l m : List Spot) → t ≡ u → a ≡ b → l ≡ m → made t a l ≡ made u b m
made_is t u a b l m e f g = ap (λ z. made z a l) e ∙ (ap (λ z. made u z l) f ∙ ap (λ z. made u b z) g)

type_of_simple : (first : Placed) (ts : List Placed) (t : Ty) → IsSimple first t → IsTypeOf (first ∷ ts) (record { ty = t; at = spot first.at; leaves = [] }) ts
type_of_simple first ts t s = record {
  written = s.written;
  grammar = s.grammar;
  spelled = λ r behind k. ap (λ z. first ∷ z) (sym k) ∙ s.spelled r behind;
  same = made_is t (tree.type_of s.written) (spot first.at) (spot (tree.start_of s.written)) [] (tree.leaves_of s.written) s.ty_is s.at_is s.leaves_is;
}

type_by_sound : (o : Option Ty) (w : Wanted) (first : Placed) (ts : List Placed) (x : TypeAt × List Placed) → simple_type first.text ≡ o → type_by o w first ts ≡ reads x → IsTypeOf (first ∷ ts) x.0 x.1
type_by_sound (Some t) w first ts x k h =
    subst (λ (z : TypeAt × List Placed). IsTypeOf (first ∷ ts) z.0 z.1) (same (record { ty = t; at = spot first.at; leaves = [] }, ts) x h) (type_of_simple first ts t (simple_sound first t k))
type_by_sound None w first ts x k h =
    bind (bracketed_at (part_within most_brackets) w first ts) _ x (IsTypeOf (first ∷ ts) x.0 x.1) h (λ p hp h1.
    let b = bracketed_sound most_brackets (part_within most_brackets) (part_sound most_brackets) w first ts p hp in
    subst (λ (z : TypeAt × List Placed). IsTypeOf (first ∷ ts) z.0 z.1) (same (record { ty = p.0.ty; at = spot first.at; leaves = p.0.leaves }, p.1) x h1)
    (record {
      written = b.written;
      grammar = b.grammar;
      spelled = b.spelled;
      same = made_is p.0.ty (tree.type_of b.written) (spot first.at) (spot (tree.start_of b.written)) p.0.leaves (tree.leaves_of b.written) b.ty_is b.at_is b.leaves_is;
    }))

pub type_sound : TypeIsSound
type_sound w [] x h = not_reads h
type_sound w (t ∷ ts) x h = type_by_sound (simple_type t.text) w t ts x refl h
