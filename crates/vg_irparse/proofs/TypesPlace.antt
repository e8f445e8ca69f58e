-- Where a type is refused, some type begins with the lexemes in front, and none with the next one too: what is decided of
-- the first lexeme that is wrong depends on nothing behind it.
use Rattle.std.proofs.Common.{◌≡◌, ◌⊎◌, ℕ, zero, suc, ◌+◌, ◌<◌, ◌≤◌, max, Bool, true, false, cond, ◌&&◌, Option, Some, None, List, [], ◌∷◌, ◌++◌, length, codes, map, refl, sym, ap, subst, ◌∙◌, arith, append_assoc, length-append, IsTrue, inl, inr}
use Rattle.std.proofs.lemmas.Bool.{and_from as both-from}
use Rattle.std.proofs.lemmas.List.{append_cancel_left}
use Rattle.std.proofs.lemmas.Slice.Eq.{bytes_eq-Decides}
use Rattle.std.specs.Str.{bytes_eq}
use Rattle.vg_ir.specs.declared.ty.Ty.{Ty}
use Rattle.vg_ir.specs.declared.ty.Ty.TheVariants as ty
use Rattle.vg_ir.specs.declared.ty.TypeAt.{TypeAt}
use Rattle.vg_ir.specs.declared.spot.Spot.{Spot}
use Rattle.vg_irparse.specs.declared.role.Role.{Role}
use Rattle.vg_irparse.specs.declared.role.Role.TheVariants as roles
use Rattle.vg_irparse.specs.declared.role.Wanted.{Wanted}
use Rattle.vg_irparse.specs.declared.part.Part.{Part}
use Rattle.vg_irparse.specs.Placed.{Placed, Mark, Slot, free, fixed, word, marked, last_of_type, plain, any_type, lexemes_of}
use Rattle.vg_irparse.specs.Text.{digits_value, spot}
use Rattle.vg_irparse.specs.Concrete.{TypeTree, integer, pointer, array, structure, named, MoreTypes, no_more_type, one_more_type}
use Rattle.vg_irparse.specs.Spelling.{integer_text, spelled_type, spelled_more_types}
use Rattle.vg_irparse.specs.Grammar.{is_length, is_type, are_more_types}
use Rattle.vg_irparse.specs.Tree as tree
use Rattle.vg_irparse.specs.Answer.{Answer, reads, leaves, too_deep, ◌>>=◌}
use Rattle.vg_irparse.specs.Taking.{fixed_at, separator_at}
use Rattle.vg_irparse.specs.ReadingType.{Reader, wanted, behind_type, simple_type, part_by, length_at, array_at, field_at, fields_at, bracketed_at, part_within, type_by, type_at, most_brackets}
use Rattle.vg_irparse.specs.ExactType.{nesting}
use Rattle.vg_irparse.specs.PlaceType.{BeginsType, LeavesTypes, TypeIsPlaced}
use Rattle.vg_irparse.proofs.TypesComplete.{part_of, part_complete, closed}
use Rattle.vg_irparse.proofs.TypesSound.{mark_of, marked_is, text_is, same, IsFixed, IsLength, IsPart, fixed_sound, length_sound, separator_sound, field_sound, part_sound}

-- ---- answers

-- the same place is told, or nothing
abbrev pub Again : {A : Type 0} → Answer A → ℕ → Wanted → Type 0
Again a m v = (a ≡ leaves m v) ⊎ (a ≡ too_deep)

again_bind : {A B : Type 0} (o : Answer A) (f : A → Answer B) (m : ℕ) (v : Wanted) → Again o m v → Again (o >>= f) m v
again_bind o f m v (inl h) = inl (rw h refl)
again_bind o f m v (inr h) = inr (rw h refl)

reads_not : {A B : Type 0} {x : A} {n : ℕ} {v : Wanted} → reads x ≡ leaves n v → B
reads_not h = absurd (cc)

deep_not : {A B : Type 0} {n : ℕ} {v : Wanted} → ◌≡◌ {A = Answer A} too_deep (leaves n v) → B
deep_not h = absurd (cc)

places : {B : Type 0} (m n : ℕ) (w v : Wanted) → ◌≡◌ {A = Answer B} (leaves m w) (leaves n v) → (m ≡ n) × (w ≡ v)
places m n w v h = (cc, cc)

-- of two steps the first leaves, or it reads and the second leaves
bind_leaves : {A B : Type 0} (o : Answer A) (f : A → Answer B) (n : ℕ) (v : Wanted) (P : Type 0) → (o >>= f) ≡ leaves n v
    → (o ≡ leaves n v → P) → ((x : A) → o ≡ reads x → f x ≡ leaves n v → P) → P
bind_leaves (reads x) f n v P h k l = l x refl h
bind_leaves (leaves m w) f n v P h k l = let p = places m n w v h in k (ap (λ z. leaves z w) p.0 ∙ ap (λ z. leaves n z) p.1)
bind_leaves too_deep f n v P h k l = deep_not h

-- ---- lexemes

same_bytes : (a : List ℕ) → bytes_eq a a ≡ true
same_bytes a = (bytes_eq-Decides a a).1 refl

fixed_reads : (text : List ℕ) (w : Wanted) (m : Mark) (ts : List Placed) → fixed_at text w (marked text m ∷ ts) ≡ reads (m.at, ts)
fixed_reads text w m ts = rw (same_bytes text) refl

-- of one lexeme
record TokenStops {A : Type 0} (read : List Placed → Answer A) (ts : List Placed) (n : ℕ) (v : Wanted) : Type 0 where
  count : length ts ≡ n
  local : (t : Placed) (others : List Placed) → ts ≡ t ∷ others → (us : List Placed) → read (t ∷ us) ≡ leaves (length us + 1) v

nothing_stops : {A : Type 0} (read : List Placed → Answer A) (n : ℕ) (v : Wanted) → 0 ≡ n → TokenStops read [] n v
nothing_stops read n v h = record { count = h; local = λ t others e us. absurd (cc) }

one_stops : {A : Type 0} (read : List Placed → Answer A) (a : Placed) (bs : List Placed) (n : ℕ) (v : Wanted) → length bs + 1 ≡ n
    → ((us : List Placed) → read (a ∷ us) ≡ leaves (length us + 1) v) → TokenStops read (a ∷ bs) n v
one_stops read a bs n v h l = record {
  count = omega (arith, h);
  local = λ t others e us. let k : a ≡ t = cc in subst (λ (z : Placed). read (z ∷ us) ≡ leaves (length us + 1) v) k (l us);
}

fixed_stops_by : (b : Bool) (text : List ℕ) (w : Wanted) (a : Placed) (bs : List Placed) (n : ℕ) (v : Wanted) → bytes_eq a.text text ≡ b → fixed_at text w (a ∷ bs) ≡ leaves n v
    → TokenStops (fixed_at text w) (a ∷ bs) n v
fixed_stops_by true text w a bs n v k h = let e : reads (a.at, bs) ≡ leaves n v = sym (rw k refl) ∙ h in reads_not e
fixed_stops_by false text w a bs n v k h =
    let e : ◌≡◌ {A = Answer (ℕ × List Placed)} (leaves (length bs + 1) w) (leaves n v) = sym (rw k refl) ∙ h in
    let p = places (length bs + 1) n w v e in
    one_stops (fixed_at text w) a bs n v p.0 (λ us. rw k (ap (λ z. leaves (length us + 1) z) p.1))

fixed_stops : (text : List ℕ) (w : Wanted) (ts : List Placed) (n : ℕ) (v : Wanted) → fixed_at text w ts ≡ leaves n v → TokenStops (fixed_at text w) ts n v
fixed_stops text w [] n v h = nothing_stops (fixed_at text w) n v ((places 0 n w v h).0)
fixed_stops text w (a ∷ bs) n v h = fixed_stops_by (bytes_eq a.text text) text w a bs n v refl h

separator_stops_by : (b c : Bool) (text : List ℕ) (w : Wanted) (a : Placed) (bs : List Placed) (n : ℕ) (v : Wanted) → bytes_eq a.text text ≡ b → bytes_eq a.text (codes ",") ≡ c
    → separator_at text w (a ∷ bs) ≡ leaves n v → TokenStops (separator_at text w) (a ∷ bs) n v
separator_stops_by true c text w a bs n v k l h = let e : reads (true, bs) ≡ leaves n v = sym (rw k refl) ∙ h in reads_not e
separator_stops_by false true text w a bs n v k l h = let e : reads (false, bs) ≡ leaves n v = sym (rw (k, l) refl) ∙ h in reads_not e
separator_stops_by false false text w a bs n v k l h =
    let e : ◌≡◌ {A = Answer (Bool × List Placed)} (leaves (length bs + 1) w) (leaves n v) = sym (rw (k, l) refl) ∙ h in
    let p = places (length bs + 1) n w v e in
    one_stops (separator_at text w) a bs n v p.0 (λ us. rw (k, l) (ap (λ z. leaves (length us + 1) z) p.1))

separator_stops : (text : List ℕ) (w : Wanted) (ts : List Placed) (n : ℕ) (v : Wanted) → separator_at text w ts ≡ leaves n v → TokenStops (separator_at text w) ts n v
separator_stops text w [] n v h = nothing_stops (separator_at text w) n v ((places 0 n w v h).0)
separator_stops text w (a ∷ bs) n v h = separator_stops_by (bytes_eq a.text text) (bytes_eq a.text (codes ",")) text w a bs n v refl refl h

length_stops_by : (b : Bool) (a : Placed) (bs : List Placed) (n : ℕ) (v : Wanted) → is_length a.text ≡ b → length_at (a ∷ bs) ≡ leaves n v → TokenStops length_at (a ∷ bs) n v
length_stops_by true a bs n v k h = let e : reads (digits_value a.text, bs) ≡ leaves n v = sym (rw k refl) ∙ h in reads_not e
length_stops_by false a bs n v k h =
    let e : ◌≡◌ {A = Answer (ℕ × List Placed)} (leaves (length bs + 1) (wanted roles.Plain)) (leaves n v) = sym (rw k refl) ∙ h in
    let p = places (length bs + 1) n (wanted roles.Plain) v e in
    one_stops length_at a bs n v p.0 (λ us. rw k (ap (λ z. leaves (length us + 1) z) p.1))

length_stops : (ts : List Placed) (n : ℕ) (v : Wanted) → length_at ts ≡ leaves n v → TokenStops length_at ts n v
length_stops [] n v h = nothing_stops length_at n v ((places 0 n (wanted roles.Plain) v h).0)
length_stops (a ∷ bs) n v h = length_stops_by (is_length a.text) a bs n v refl h

-- ---- what a tree spells, and what is behind it

mutual
  pub type_append : (t : TypeTree) (r q : Role) (ts : List Slot) → lexemes_of (spelled_type r t ts) ≡ lexemes_of (spelled_type q t []) ++ lexemes_of ts
  type_append (integer width at) r q ts = refl
  type_append (pointer at) r q ts = refl
  type_append (array opening n by element closing) r q ts =
      let c = marked (codes "]") closing in
      let i = type_append element any_type any_type (last_of_type plain c ∷ ts) in
      let j = type_append element any_type any_type (last_of_type plain c ∷ []) in
      let e = lexemes_of (spelled_type any_type element []) in
      ap (λ z. marked (codes "[") opening ∷ n ∷ marked (codes "x") by ∷ z)
      (i ∙ (sym (append_assoc e (c ∷ []) (lexemes_of ts)) ∙ ap (λ z. z ++ lexemes_of ts) (sym j)))
  type_append (structure opening first more closing) r q ts =
      let c = marked (codes "}") closing in
      let f = lexemes_of (spelled_type any_type first []) in
      let m = lexemes_of (spelled_more_types more []) in
      let i = type_append first any_type any_type (spelled_more_types more (last_of_type plain c ∷ ts)) in
      let j = type_append first any_type any_type (spelled_more_types more (last_of_type plain c ∷ [])) in
      let k = types_append more (last_of_type plain c ∷ ts) in
      let l = types_append more (last_of_type plain c ∷ []) in
      ap (λ z. marked (codes "{") opening ∷ z)
      (i ∙ (ap (λ z. f ++ z) k ∙ (ap (λ z. f ++ z) (sym (append_assoc m (c ∷ []) (lexemes_of ts)))
      ∙ (sym (append_assoc f (m ++ c ∷ []) (lexemes_of ts)) ∙ ap (λ z. z ++ lexemes_of ts) (ap (λ z. f ++ z) (sym l) ∙ sym j)))))
  type_append (named name) r q ts = refl

  types_append : (more : MoreTypes) (ts : List Slot) → lexemes_of (spelled_more_types more ts) ≡ lexemes_of (spelled_more_types more []) ++ lexemes_of ts
  types_append no_more_type ts = refl
  types_append (one_more_type comma t more) ts =
      let f = lexemes_of (spelled_type any_type t []) in
      let m = lexemes_of (spelled_more_types more []) in
      let i = type_append t any_type any_type (spelled_more_types more ts) in
      let j = type_append t any_type any_type (spelled_more_types more []) in
      let k = types_append more ts in
      ap (λ z. marked (codes ",") comma ∷ z)
      (i ∙ (ap (λ z. f ++ z) k ∙ (sym (append_assoc f m (lexemes_of ts)) ∙ ap (λ z. z ++ lexemes_of ts) (sym j))))

-- any lexemes as slots
pub slots_of : List Placed → List Slot
slots_of ts = map (free plain) ts

pub slots_are : (ts : List Placed) → lexemes_of (slots_of ts) ≡ ts
unfolding slots_of
slots_are [] = refl
slots_are (t ∷ ts) = ap (λ z. t ∷ z) (slots_are ts)

-- the lexemes of a type alone
abbrev front_of : TypeTree → List Placed
front_of t = lexemes_of (spelled_type any_type t [])

front_whole : (d : ℕ) (ts : List Placed) (x : Part) (rest : List Placed) → (p : IsPart d ts x rest) → ts ≡ front_of p.written ++ rest
front_whole d ts x rest p =
    p.spelled any_type (slots_of rest) (slots_are rest) ∙ (type_append p.written any_type any_type (slots_of rest) ∙ ap (λ z. front_of p.written ++ z) (slots_are rest))

-- what was read is read again, whatever is behind it
reread : (d deeper : ℕ) (w : Wanted) (t : TypeTree) (us : List Placed) → is_type t ≡ true → nesting t < d → d ≤ deeper → part_within deeper w (front_of t ++ us) ≡ reads (part_of t, us)
reread d deeper w t us g n h =
    let c = part_complete t g deeper (omega arith) w any_type (slots_of us) in
    ap (part_within deeper w) (ap (λ z. front_of t ++ z) (sym (slots_are us)) ∙ sym (type_append t any_type any_type (slots_of us)))
    ∙ (c ∙ ap (λ z. reads (part_of t, z)) (slots_are us))

-- ---- fronts

abbrev pub no_mark : Mark
no_mark = record { at = 0; fresh = false }

abbrev no_length : Placed
no_length = record { text = codes "0"; at = 0; fresh = false }

-- some type begins with these lexemes and goes on
abbrev pub TypeFront : List Placed → Type 0
TypeFront front = (written : TypeTree) × (is_type written ≡ true) × (s : Placed) × (more : List Placed)
    × ((r : Role) (behind : List Slot) → lexemes_of (spelled_type r written behind) ≡ front ++ s ∷ (more ++ lexemes_of behind))

-- the lexemes behind a `[` begin so
abbrev ArrayFront : List Placed → Type 0
ArrayFront front = (n : Placed) × (by : Mark) × (element : TypeTree) × (closing : Mark) × (is_length n.text ≡ true) × (is_type element ≡ true) × (s : Placed) × (more : List Placed)
    × ((behind : List Slot) → n ∷ marked (codes "x") by ∷ lexemes_of (spelled_type any_type element (last_of_type plain (marked (codes "]") closing) ∷ behind)) ≡ front ++ s ∷ (more ++ lexemes_of behind))

-- the lexemes behind a `{` begin so
abbrev FieldsFront : List Placed → Type 0
FieldsFront front = (first : TypeTree) × (others : MoreTypes) × (closing : Mark) × (is_type first ≡ true) × (are_more_types others ≡ true) × (s : Placed) × (more : List Placed)
    × ((behind : List Slot) → lexemes_of (spelled_type any_type first (spelled_more_types others (closed closing behind))) ≡ front ++ s ∷ (more ++ lexemes_of behind))

-- where a reader leaves: the lexemes in front begin so, and the next one decides alone, at `again` too
pub record Stops (again : List Placed → ℕ → Type 0) (HasFront : List Placed → Type 0) (ts : List Placed) (n : ℕ) : Type 0 where
  pub front : List Placed
  pub rest : List Placed
  pub whole : ts ≡ front ++ rest
  pub count : length rest ≡ n
  pub begun : HasFront front
  pub local : (t : Placed) (others : List Placed) → rest ≡ t ∷ others → (us : List Placed) → again (front ++ t ∷ us) (length us + 1)

abbrev pub PartStops : ℕ → Wanted → List Placed → ℕ → Wanted → Type 0
PartStops deeper w ts n v = Stops (λ us m. Again (part_within deeper w us) m v) TypeFront ts n

abbrev pub PartsStop : ℕ → ℕ → Type 0
PartsStop d deeper = (w : Wanted) (ts : List Placed) (n : ℕ) (v : Wanted) → part_within d w ts ≡ leaves n v → PartStops deeper w ts n v

-- ---- arrays

abbrev array_end : ℕ → Part × List Placed → Answer (Part × List Placed)
array_end n e = fixed_at (codes "]") behind_type e.1 >>= λ c. reads (record { ty = ty.Array n e.0.ty; leaves = e.0.leaves }, c.1)

array_goes : (read : Reader) (number : Placed) (m : Mark) (ts : List Placed) → is_length number.text ≡ true
    → array_at read (number ∷ marked (codes "x") m ∷ ts) ≡ (read (wanted roles.AnyType) ts >>= array_end (digits_value number.text))
unfolding array_at
array_goes read number m ts h = rw h refl

array_by : (read : Reader) (number : Placed) (ts : List Placed) (n : ℕ) (v : Wanted) → is_length number.text ≡ true → fixed_at (codes "x") (wanted roles.Plain) ts ≡ leaves n v
    → array_at read (number ∷ ts) ≡ leaves n v
unfolding array_at
array_by read number ts n v h k = rw h (rw k refl)

array_length : (read : Reader) (ts : List Placed) (n : ℕ) (v : Wanted) → length_at ts ≡ leaves n v → array_at read ts ≡ leaves n v
unfolding array_at
array_length read ts n v h = rw h refl

abbrev ArrayStops : ℕ → List Placed → ℕ → Wanted → Type 0
ArrayStops deeper ts n v = Stops (λ us m. Again (array_at (part_within deeper) us) m v) ArrayFront ts n

array_stops_length : (deeper : ℕ) (ts : List Placed) (n : ℕ) (v : Wanted) → length_at ts ≡ leaves n v → ArrayStops deeper ts n v
array_stops_length deeper ts n v h =
    let s = length_stops ts n v h in
    record {
      front = [];
      rest = ts;
      whole = refl;
      count = s.count;
      begun = (no_length, no_mark, pointer no_mark, no_mark, refl, refl, no_length, marked (codes "x") no_mark ∷ marked (codes "ptr") no_mark ∷ marked (codes "]") no_mark ∷ [], λ behind. refl);
      local = λ t others e us. inl (array_length (part_within deeper) (t ∷ us) (length us + 1) v (s.local t others e us));
    }

array_stops_by : (deeper : ℕ) (ts : List Placed) (k : ℕ) (rest : List Placed) (n : ℕ) (v : Wanted) → IsLength ts k rest → fixed_at (codes "x") (wanted roles.Plain) rest ≡ leaves n v → ArrayStops deeper ts n v
array_stops_by deeper ts k rest n v l h =
    let s = fixed_stops (codes "x") (wanted roles.Plain) rest n v h in
    record {
      front = l.number ∷ [];
      rest = rest;
      whole = l.whole;
      count = s.count;
      begun = (l.number, no_mark, pointer no_mark, no_mark, l.is_one, refl, marked (codes "x") no_mark, marked (codes "ptr") no_mark ∷ marked (codes "]") no_mark ∷ [], λ behind. refl);
      local = λ t others e us. inl (array_by (part_within deeper) l.number (t ∷ us) (length us + 1) v l.is_one (s.local t others e us));
    }

array_stops_element : (deeper : ℕ) (ts : List Placed) (k : ℕ) (rest : List Placed) (n : ℕ) (v : Wanted) (after : List Placed) → IsLength ts k rest → IsFixed (codes "x") rest after
    → PartStops deeper (wanted roles.AnyType) after n v → ArrayStops deeper ts n v
array_stops_element deeper ts k rest n v after l m s =
    let b = s.begun in
    let c = marked (codes "]") no_mark in
    record {
      front = l.number ∷ marked (codes "x") m.mark ∷ s.front;
      rest = s.rest;
      whole = l.whole ∙ ap (λ z. l.number ∷ z) (m.whole ∙ ap (λ z. marked (codes "x") m.mark ∷ z) s.whole);
      count = s.count;
      begun = (
        l.number,
        m.mark,
        b.0,
        no_mark,
        l.is_one,
        b.1,
        b.2,
        b.3 ++ c ∷ [],
        λ behind. ap (λ z. l.number ∷ marked (codes "x") m.mark ∷ z)
            (b.4 any_type (last_of_type plain c ∷ behind) ∙ ap (λ z. s.front ++ b.2 ∷ z) (sym (append_assoc b.3 (c ∷ []) (lexemes_of behind)))),
      );
      local = λ t others e us.
          rw (array_goes (part_within deeper) l.number m.mark (s.front ++ t ∷ us) l.is_one)
          (again_bind (part_within deeper (wanted roles.AnyType) (s.front ++ t ∷ us)) (array_end (digits_value l.number.text)) (length us + 1) v (s.local t others e us));
    }

array_stops_end : (d deeper : ℕ) (ts : List Placed) (k : ℕ) (rest : List Placed) (n : ℕ) (v : Wanted) (after : List Placed) (x : Part) (end : List Placed) → d ≤ deeper → IsLength ts k rest → IsFixed (codes "x") rest after
    → IsPart d after x end → fixed_at (codes "]") behind_type end ≡ leaves n v → ArrayStops deeper ts n v
array_stops_end d deeper ts k rest n v after x end h l m p f =
    let s = fixed_stops (codes "]") behind_type end n v f in
    let c = marked (codes "]") no_mark in
    record {
      front = l.number ∷ marked (codes "x") m.mark ∷ front_of p.written;
      rest = end;
      whole = l.whole ∙ ap (λ z. l.number ∷ z) (m.whole ∙ ap (λ z. marked (codes "x") m.mark ∷ z) (front_whole d after x end p));
      count = s.count;
      begun = (
        l.number,
        m.mark,
        p.written,
        no_mark,
        l.is_one,
        p.grammar,
        c,
        [],
        λ behind. ap (λ z. l.number ∷ marked (codes "x") m.mark ∷ z) (type_append p.written any_type any_type (last_of_type plain c ∷ behind)),
      );
      local = λ t others e us.
          rw (array_goes (part_within deeper) l.number m.mark (front_of p.written ++ t ∷ us) l.is_one)
          (rw (reread d deeper (wanted roles.AnyType) p.written (t ∷ us) p.grammar p.within h)
          (again_bind (fixed_at (codes "]") behind_type (t ∷ us)) _ (length us + 1) v (inl (s.local t others e us))));
    }

array_stops : (d deeper : ℕ) → d ≤ deeper → PartsStop d deeper → (ts : List Placed) (n : ℕ) (v : Wanted) → array_at (part_within d) ts ≡ leaves n v → ArrayStops deeper ts n v
unfolding array_at
array_stops d deeper o s ts n v h =
    bind_leaves (length_at ts) _ n v (ArrayStops deeper ts n v) h (λ e. array_stops_length deeper ts n v e) (λ k hk h1.
    bind_leaves (fixed_at (codes "x") (wanted roles.Plain) k.1) _ n v (ArrayStops deeper ts n v) h1 (λ e. array_stops_by deeper ts k.0 k.1 n v (length_sound ts k hk) e) (λ b hb h2.
    bind_leaves (part_within d (wanted roles.AnyType) b.1) _ n v (ArrayStops deeper ts n v) h2
    (λ e. array_stops_element deeper ts k.0 k.1 n v b.1 (length_sound ts k hk) (fixed_sound (codes "x") (wanted roles.Plain) k.1 b hb) (s (wanted roles.AnyType) b.1 n v e)) (λ x hx h3.
    bind_leaves (fixed_at (codes "]") behind_type x.1) _ n v (ArrayStops deeper ts n v) h3
    (λ e. array_stops_end d deeper ts k.0 k.1 n v b.1 x.0 x.1 o (length_sound ts k hk) (fixed_sound (codes "x") (wanted roles.Plain) k.1 b hb) (part_sound d (wanted roles.AnyType) b.1 x hx) e)
    (λ c hc h4. reads_not h4))))

-- ---- structures

abbrev FieldsStop : ℕ → List Placed → ℕ → Wanted → Type 0
FieldsStop deeper ts n v = Stops (λ us m. (fuel : ℕ) (types : List Ty) (spots : List Spot) → Again (fields_at fuel (part_within deeper) types spots us) m v) FieldsFront ts n

fields_again : (read : Reader) (fuel : ℕ) (types : List Ty) (spots : List Spot) (ts : List Placed) (m : ℕ) (v : Wanted) → Again (field_at read ts) m v → Again (fields_at fuel read types spots ts) m v
unfolding fields_at
fields_again read zero types spots ts m v h = inr refl
fields_again read (suc fuel) types spots ts m v h = again_bind (field_at read ts) _ m v h

fields_pass : (read : Reader) (fuel : ℕ) (types : List Ty) (spots : List Spot) (ts : List Placed) (x : Part) (rest : List Placed) (m : ℕ) (v : Wanted) → field_at read ts ≡ reads ((x, false), rest)
    → ((f : ℕ) (tys : List Ty) (sps : List Spot) → Again (fields_at f read tys sps rest) m v) → Again (fields_at fuel read types spots ts) m v
unfolding fields_at
fields_pass read zero types spots ts x rest m v h g = inr refl
fields_pass read (suc fuel) types spots ts x rest m v h g = rw h (g fuel (types ++ x.ty ∷ []) (spots ++ x.leaves))

field_again : (read : Reader) (ts : List Placed) (m : ℕ) (v : Wanted) → Again (read (wanted roles.AnyType) ts) m v → Again (field_at read ts) m v
unfolding field_at
field_again read ts m v h = again_bind (read (wanted roles.AnyType) ts) _ m v h

field_ends : (read : Reader) (ts : List Placed) (x : Part) (rest : List Placed) (m : ℕ) (v : Wanted) → read (wanted roles.AnyType) ts ≡ reads (x, rest) → separator_at (codes "}") behind_type rest ≡ leaves m v
    → Again (field_at read ts) m v
unfolding field_at
field_ends read ts x rest m v h k = inl (rw h (rw k refl))

field_comma : (read : Reader) (ts : List Placed) (x : Part) (mark : Mark) (rest : List Placed) → read (wanted roles.AnyType) ts ≡ reads (x, marked (codes ",") mark ∷ rest) → field_at read ts ≡ reads ((x, false), rest)
unfolding field_at
field_comma read ts x mark rest h = rw h refl

fields_stop_field : (deeper : ℕ) (ts : List Placed) (n : ℕ) (v : Wanted) → PartStops deeper (wanted roles.AnyType) ts n v → FieldsStop deeper ts n v
fields_stop_field deeper ts n v s =
    let b = s.begun in
    let c = marked (codes "}") no_mark in
    record {
      front = s.front;
      rest = s.rest;
      whole = s.whole;
      count = s.count;
      begun = (
        b.0,
        no_more_type,
        no_mark,
        b.1,
        refl,
        b.2,
        b.3 ++ c ∷ [],
        λ behind. b.4 any_type (closed no_mark behind) ∙ ap (λ z. s.front ++ b.2 ∷ z) (sym (append_assoc b.3 (c ∷ []) (lexemes_of behind))),
      );
      local = λ t others e us fuel types spots.
          fields_again (part_within deeper) fuel types spots (s.front ++ t ∷ us) (length us + 1) v (field_again (part_within deeper) (s.front ++ t ∷ us) (length us + 1) v (s.local t others e us));
    }

fields_stop_end : (d deeper : ℕ) (ts : List Placed) (n : ℕ) (v : Wanted) (x : Part) (end : List Placed) → d ≤ deeper → IsPart d ts x end → separator_at (codes "}") behind_type end ≡ leaves n v → FieldsStop deeper ts n v
fields_stop_end d deeper ts n v x end h p f =
    let s = separator_stops (codes "}") behind_type end n v f in
    record {
      front = front_of p.written;
      rest = end;
      whole = front_whole d ts x end p;
      count = s.count;
      begun = (p.written, no_more_type, no_mark, p.grammar, refl, marked (codes "}") no_mark, [], λ behind. type_append p.written any_type any_type (closed no_mark behind));
      local = λ t others e us fuel types spots.
          fields_again (part_within deeper) fuel types spots (front_of p.written ++ t ∷ us) (length us + 1) v
          (field_ends (part_within deeper) (front_of p.written ++ t ∷ us) (part_of p.written) (t ∷ us) (length us + 1) v
          (reread d deeper (wanted roles.AnyType) p.written (t ∷ us) p.grammar p.within h) (s.local t others e us));
    }

field_stops : (d deeper : ℕ) → d ≤ deeper → PartsStop d deeper → (ts : List Placed) (n : ℕ) (v : Wanted) → field_at (part_within d) ts ≡ leaves n v → FieldsStop deeper ts n v
unfolding field_at
field_stops d deeper o s ts n v h =
    bind_leaves (part_within d (wanted roles.AnyType) ts) _ n v (FieldsStop deeper ts n v) h (λ e. fields_stop_field deeper ts n v (s (wanted roles.AnyType) ts n v e)) (λ x hx h1.
    bind_leaves (separator_at (codes "}") behind_type x.1) _ n v (FieldsStop deeper ts n v) h1
    (λ e. fields_stop_end d deeper ts n v x.0 x.1 o (part_sound d (wanted roles.AnyType) ts x hx) e) (λ c hc h2. reads_not h2))

-- a field with a comma behind it, and then others
fields_stop_more : (d deeper : ℕ) (ts : List Placed) (n : ℕ) (v : Wanted) (x : Part) (after rest : List Placed) → d ≤ deeper → IsPart d ts x after → IsFixed (codes ",") after rest
    → FieldsStop deeper rest n v → FieldsStop deeper ts n v
fields_stop_more d deeper ts n v x after rest h p q s =
    let b = s.begun in
    let f = front_of p.written in
    let m = marked (codes ",") q.mark in
    record {
      front = f ++ m ∷ s.front;
      rest = s.rest;
      whole = front_whole d ts x after p ∙ (ap (λ z. f ++ z) (q.whole ∙ ap (λ z. m ∷ z) s.whole) ∙ sym (append_assoc f (m ∷ s.front) s.rest));
      count = s.count;
      begun = (
        p.written,
        one_more_type q.mark b.0 b.1,
        b.2,
        p.grammar,
        both-from (is_type b.0) (are_more_types b.1) b.3 b.4,
        b.5,
        b.6,
        λ behind. type_append p.written any_type any_type (spelled_more_types (one_more_type q.mark b.0 b.1) (closed b.2 behind))
            ∙ (ap (λ z. f ++ m ∷ z) (b.7 behind) ∙ sym (append_assoc f (m ∷ s.front) (b.5 ∷ (b.6 ++ lexemes_of behind)))),
      );
      local = λ t others e us fuel types spots.
          rw (append_assoc f (m ∷ s.front) (t ∷ us))
          (fields_pass (part_within deeper) fuel types spots (f ++ m ∷ (s.front ++ t ∷ us)) (part_of p.written) (s.front ++ t ∷ us) (length us + 1) v
          (field_comma (part_within deeper) (f ++ m ∷ (s.front ++ t ∷ us)) (part_of p.written) q.mark (s.front ++ t ∷ us)
          (reread d deeper (wanted roles.AnyType) p.written (m ∷ (s.front ++ t ∷ us)) p.grammar p.within h))
          (s.local t others e us));
    }

fields_next : (d deeper fuel : ℕ) → d ≤ deeper → (types : List Ty) (spots : List Spot) (ts : List Placed) (f : (Part × Bool) × List Placed) (n : ℕ) (v : Wanted) (after : List Placed) (b : Bool) → f.0.1 ≡ b
    → IsPart d ts f.0.0 after → ((f.0.1 ≡ true) × IsFixed (codes "}") after f.1) ⊎ ((f.0.1 ≡ false) × IsFixed (codes ",") after f.1)
    → ((tys : List Ty) (sps : List Spot) (us : List Placed) → fields_at fuel (part_within d) tys sps us ≡ leaves n v → FieldsStop deeper us n v)
    → cond f.0.1 (reads (record { ty = ty.Struct (types ++ f.0.0.ty ∷ []); leaves = spots ++ f.0.0.leaves }, f.1)) (fields_at fuel (part_within d) (types ++ f.0.0.ty ∷ []) (spots ++ f.0.0.leaves) f.1) ≡ leaves n v
    → FieldsStop deeper ts n v
fields_next d deeper fuel o types spots ts f n v after true k p q go h =
    let made : Part × List Placed = (record { ty = ty.Struct (types ++ f.0.0.ty ∷ []); leaves = spots ++ f.0.0.leaves }, f.1) in
    let e : reads made ≡ leaves n v = sym (rw k refl) ∙ h in
    reads_not e
fields_next d deeper fuel o types spots ts f n v after false k p q go h =
    let e : fields_at fuel (part_within d) (types ++ f.0.0.ty ∷ []) (spots ++ f.0.0.leaves) f.1 ≡ leaves n v = sym (rw k refl) ∙ h in
    let c = elim q as (λ _. IsFixed (codes ",") after f.1) [ inl y ↦ absurd (let z : true ≡ false = sym y.0 ∙ k in cc) | inr y ↦ y.1 ] in
    fields_stop_more d deeper ts n v f.0.0 after f.1 o p c (go _ _ f.1 e)

fields_stops : (fuel d deeper : ℕ) → d ≤ deeper → PartsStop d deeper → (types : List Ty) (spots : List Spot) (ts : List Placed) (n : ℕ) (v : Wanted)
    → fields_at fuel (part_within d) types spots ts ≡ leaves n v → FieldsStop deeper ts n v
unfolding fields_at
fields_stops zero d deeper o s types spots ts n v h = deep_not h
fields_stops (suc fuel) d deeper o s types spots ts n v h =
    bind_leaves (field_at (part_within d) ts) _ n v (FieldsStop deeper ts n v) h (λ e. field_stops d deeper o s ts n v e) (λ f hf h1.
    let i = field_sound d (part_within d) (part_sound d) ts f hf in
    fields_next d deeper fuel o types spots ts f n v i.after f.0.1 refl i.part i.end (λ tys sps us k. fields_stops fuel d deeper o s tys sps us n v k) h1)

-- ---- types

pub bracket_again : (deeper : ℕ) (w : Wanted) (first : Placed) (ts : List Placed) → simple_type first.text ≡ None → part_within (suc deeper) w (first ∷ ts) ≡ bracketed_at (part_within deeper) w first ts
unfolding part_within
bracket_again deeper w first ts h = rw h refl

again_along : {A : Type 0} (x y : Answer A) (m : ℕ) (v : Wanted) → x ≡ y → Again y m v → Again x m v
again_along x y m v e (inl h) = inl (e ∙ h)
again_along x y m v e (inr h) = inr (e ∙ h)

array_bracket : (read : Reader) (w : Wanted) (first : Placed) (ts : List Placed) → bytes_eq first.text (codes "[") ≡ true → bracketed_at read w first ts ≡ array_at read ts
unfolding bracketed_at
array_bracket read w first ts h = rw h refl

fields_bracket : (read : Reader) (w : Wanted) (first : Placed) (ts : List Placed) → bytes_eq first.text (codes "[") ≡ false → bytes_eq first.text (codes "{") ≡ true
    → bracketed_at read w first ts ≡ fields_at (length ts) read [] [] ts
unfolding bracketed_at
fields_bracket read w first ts h k = rw (h, k) refl

no_bracket : (read : Reader) (w : Wanted) (first : Placed) (ts : List Placed) → bytes_eq first.text (codes "[") ≡ false → bytes_eq first.text (codes "{") ≡ false
    → bracketed_at read w first ts ≡ leaves (length ts + 1) w
unfolding bracketed_at
no_bracket read w first ts h k = rw (h, k) refl

array_part : (deeper : ℕ) (w : Wanted) (first : Placed) (ts : List Placed) (n : ℕ) (v : Wanted) → simple_type first.text ≡ None → bytes_eq first.text (codes "[") ≡ true
    → ArrayStops deeper ts n v → PartStops (suc deeper) w (first ∷ ts) n v
array_part deeper w first ts n v o h s =
    let b = s.begun in
    record {
      front = first ∷ s.front;
      rest = s.rest;
      whole = ap (λ z. first ∷ z) s.whole;
      count = s.count;
      begun = (
        array (mark_of first) b.0 b.1 b.2 b.3,
        both-from (is_length b.0.text) (is_type b.2) b.4 b.5,
        b.6,
        b.7,
        λ r behind. ap (λ z. z ∷ b.0 ∷ marked (codes "x") b.1 ∷ lexemes_of (spelled_type any_type b.2 (last_of_type plain (marked (codes "]") b.3) ∷ behind)))
            (sym (marked_is first (codes "[") (text_is first.text (codes "[") h))) ∙ ap (λ z. first ∷ z) (b.8 behind),
      );
      local = λ t others e us.
          again_along _ _ (length us + 1) v (bracket_again deeper w first (s.front ++ t ∷ us) o ∙ array_bracket (part_within deeper) w first (s.front ++ t ∷ us) h) (s.local t others e us);
    }

fields_part : (deeper : ℕ) (w : Wanted) (first : Placed) (ts : List Placed) (n : ℕ) (v : Wanted) → simple_type first.text ≡ None → bytes_eq first.text (codes "[") ≡ false → bytes_eq first.text (codes "{") ≡ true
    → FieldsStop deeper ts n v → PartStops (suc deeper) w (first ∷ ts) n v
fields_part deeper w first ts n v o h k s =
    let b = s.begun in
    record {
      front = first ∷ s.front;
      rest = s.rest;
      whole = ap (λ z. first ∷ z) s.whole;
      count = s.count;
      begun = (
        structure (mark_of first) b.0 b.1 b.2,
        both-from (is_type b.0) (are_more_types b.1) b.3 b.4,
        b.5,
        b.6,
        λ r behind. ap (λ z. z ∷ lexemes_of (spelled_type any_type b.0 (spelled_more_types b.1 (closed b.2 behind))))
            (sym (marked_is first (codes "{") (text_is first.text (codes "{") k))) ∙ ap (λ z. first ∷ z) (b.7 behind),
      );
      local = λ t others e us.
          again_along _ _ (length us + 1) v (bracket_again deeper w first (s.front ++ t ∷ us) o ∙ fields_bracket (part_within deeper) w first (s.front ++ t ∷ us) h k)
          (s.local t others e us (length (s.front ++ t ∷ us)) [] []);
    }

first_part : (deeper : ℕ) (w : Wanted) (first : Placed) (ts : List Placed) (n : ℕ) (v : Wanted) → simple_type first.text ≡ None → bytes_eq first.text (codes "[") ≡ false → bytes_eq first.text (codes "{") ≡ false
    → length ts + 1 ≡ n → w ≡ v → PartStops (suc deeper) w (first ∷ ts) n v
first_part deeper w first ts n v o h k e f = record {
  front = [];
  rest = first ∷ ts;
  whole = refl;
  count = omega (arith, e);
  begun = (pointer no_mark, refl, marked (codes "ptr") no_mark, [], λ r behind. refl);
  local = λ t others g us.
      let q : first ≡ t = cc in
      let P : Placed → Type 0 = λ z. Again (part_within (suc deeper) w (z ∷ us)) (length us + 1) v in
      subst P q (inl (bracket_again deeper w first us o ∙ (no_bracket (part_within deeper) w first us h k ∙ ap (λ z. leaves (length us + 1) z) f)));
}

bracket_stops : (a b : Bool) (d deeper : ℕ) → d ≤ deeper → PartsStop d deeper → (w : Wanted) (first : Placed) (ts : List Placed) (n : ℕ) (v : Wanted) → simple_type first.text ≡ None
    → bytes_eq first.text (codes "[") ≡ a → bytes_eq first.text (codes "{") ≡ b → bracketed_at (part_within d) w first ts ≡ leaves n v → PartStops (suc deeper) w (first ∷ ts) n v
bracket_stops true b d deeper o s w first ts n v m h k e =
    array_part deeper w first ts n v m h (array_stops d deeper o s ts n v (sym (array_bracket (part_within d) w first ts h) ∙ e))
bracket_stops false true d deeper o s w first ts n v m h k e =
    fields_part deeper w first ts n v m h k (fields_stops (length ts) d deeper o s [] [] ts n v (sym (fields_bracket (part_within d) w first ts h k) ∙ e))
bracket_stops false false d deeper o s w first ts n v m h k e =
    let p = places (length ts + 1) n w v (sym (no_bracket (part_within d) w first ts h k) ∙ e) in
    first_part deeper w first ts n v m h k p.0 p.1

nothing_part : (deeper : ℕ) (w : Wanted) (n : ℕ) (v : Wanted) → 0 ≡ n → PartStops deeper w [] n v
nothing_part deeper w n v h = record {
  front = [];
  rest = [];
  whole = refl;
  count = h;
  begun = (pointer no_mark, refl, marked (codes "ptr") no_mark, [], λ r behind. refl);
  local = λ t others e us. absurd (cc);
}

part_stops_by : (x : Option Ty) (d deeper : ℕ) → d ≤ deeper → PartsStop d deeper → (w : Wanted) (first : Placed) (ts : List Placed) (n : ℕ) (v : Wanted) → simple_type first.text ≡ x
    → part_by x (part_within d) w first ts ≡ leaves n v → PartStops (suc deeper) w (first ∷ ts) n v
part_stops_by (Some t) d deeper o s w first ts n v k h = reads_not h
part_stops_by None d deeper o s w first ts n v k h = bracket_stops (bytes_eq first.text (codes "[")) (bytes_eq first.text (codes "{")) d deeper o s w first ts n v k refl refl h

pub part_stops : (d deeper : ℕ) → d ≤ deeper → PartsStop d deeper
unfolding part_within
part_stops zero deeper o w ts n v h = deep_not h
part_stops (suc d) deeper o w [] n v h = nothing_part deeper w n v ((places 0 n w v h).0)
part_stops (suc d) zero o w (t ∷ ts) n v h = absurd (omega arith)
part_stops (suc d) (suc deeper) o w (t ∷ ts) n v h =
    part_stops_by (simple_type t.text) d deeper (omega arith) (part_stops d deeper (omega arith)) w t ts n v refl h

-- ---- with the place of the whole

whole_by : (x : Option Ty) (w : Wanted) (first : Placed) (ts : List Placed) (n : ℕ) (v : Wanted) → simple_type first.text ≡ x → type_by x w first ts ≡ leaves n v
    → part_within (suc most_brackets) w (first ∷ ts) ≡ leaves n v
whole_by (Some t) w first ts n v k h = reads_not h
whole_by None w first ts n v k h =
    bind_leaves (bracketed_at (part_within most_brackets) w first ts) _ n v (part_within (suc most_brackets) w (first ∷ ts) ≡ leaves n v) h
    (λ e. bracket_again most_brackets w first ts k ∙ e) (λ p hp h1. reads_not h1)

nothing_within : (w : Wanted) (n : ℕ) (v : Wanted) → ◌≡◌ {A = Answer (TypeAt × List Placed)} (leaves 0 w) (leaves n v) → part_within (suc most_brackets) w [] ≡ leaves n v
unfolding part_within
nothing_within w n v h = let p = places 0 n w v h in ap (λ z. leaves z w) p.0 ∙ ap (λ z. leaves n z) p.1

whole_leaves : (w : Wanted) (ts : List Placed) (n : ℕ) (v : Wanted) → type_at w ts ≡ leaves n v → part_within (suc most_brackets) w ts ≡ leaves n v
whole_leaves w [] n v h = nothing_within w n v h
whole_leaves w (t ∷ ts) n v h = whole_by (simple_type t.text) w t ts n v refl h

-- two cuts with as many lexemes behind are one
cut_once : {A : Type 0} (a b c d : List A) → a ++ b ≡ c ++ d → length b ≡ length d → a ≡ c
cut_once [] b [] d e n = refl
cut_once [] b (y ∷ c) d e n = absurd (omega (arith, ap length e, length-append c d, n))
cut_once (x ∷ a) b [] d e n = absurd (omega (arith, ap length e, length-append a b, n))
cut_once (x ∷ a) b (y ∷ c) d e n =
    let t : a ++ b ≡ c ++ d = cc in
    let f : x ≡ y = cc in
    let i = cut_once a b c d t n in
    cc

-- the place decides alone at each greater depth
local_at : (w : Wanted) (ts : List Placed) (n : ℕ) (v : Wanted) → part_within (suc most_brackets) w ts ≡ leaves n v → (front rest : List Placed) → ts ≡ front ++ rest → length rest ≡ n
    → (t : Placed) (others : List Placed) → rest ≡ t ∷ others → (deeper : ℕ) → suc most_brackets ≤ deeper → (us : List Placed) → Again (part_within deeper w (front ++ t ∷ us)) (length us + 1) v
local_at w ts n v h front rest e m t others f deeper o us =
    let s = part_stops (suc most_brackets) deeper o w ts n v h in
    let g : s.front ++ s.rest ≡ front ++ rest = sym s.whole ∙ e in
    let l : length s.rest ≡ length rest = s.count ∙ sym m in
    let a = cut_once s.front s.rest front rest g l in
    let b : s.rest ≡ t ∷ others = append_cancel_left front s.rest rest (ap (λ z. z ++ s.rest) (sym a) ∙ g) ∙ f in
    let P : List Placed → Type 0 = λ z. Again (part_within deeper w (z ++ t ∷ us)) (length us + 1) v in
    subst P a (s.local t others b us)

-- with the lexeme that is wrong no type begins
wrong : (w : Wanted) (front : List Placed) (t : Placed) (v : Wanted)
    → ((deeper : ℕ) → suc most_brackets ≤ deeper → (us : List Placed) → Again (part_within deeper w (front ++ t ∷ us)) (length us + 1) v) → ¬ BeginsType (front ++ t ∷ [])
wrong w front t v again (written, g, r, more, e) =
    let deeper = suc most_brackets + nesting written in
    let c = part_complete written g deeper (omega arith) w r [] in
    let k : lexemes_of (spelled_type r written []) ≡ front ++ t ∷ more = e ∙ append_assoc front (t ∷ []) more in
    let read : part_within deeper w (front ++ t ∷ more) ≡ reads (part_of written, []) = ap (part_within deeper w) (sym k) ∙ c in
    elim (again deeper (omega arith) more) [
      | inl h ↦ reads_not (sym read ∙ h)
      | inr h ↦ (let z : reads (part_of written, []) ≡ too_deep = sym read ∙ h in absurd (cc))
    ]

pub type_placed : TypeIsPlaced
type_placed w ts n v h =
    let i = whole_leaves w ts n v h in
    let s = part_stops (suc most_brackets) (suc most_brackets) (omega arith) w ts n v i in
    let b = s.begun in
    record {
      front = s.front;
      rest = s.rest;
      whole = s.whole;
      count = s.count;
      begins = (b.0, b.1, any_type, b.2 ∷ (b.3 ++ []), b.4 any_type []);
      stops = λ t others e. wrong w s.front t v (λ deeper m us. local_at w ts n v i s.front s.rest s.whole s.count t others e deeper m us);
    }
