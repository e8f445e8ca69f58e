-- The reader of types is exact.
use Rattle.std.proofs.Common.{◌≡◌, ℕ, suc, ◌+◌, ◌<◌, ◌≤◌, max, Bool, true, false, cond, nat_eq, Option, Some, None, List, [], ◌∷◌, ◌++◌, length, codes, refl, sym, ap, subst, ◌∙◌, arith, IsTrue, inl, inr}
use Rattle.std.proofs.lemmas.Bool.{and_parts}
use Rattle.std.proofs.lemmas.List.{append_cancel_left}
use Rattle.vg_ir.specs.declared.ty.Ty.{Ty}
use Rattle.vg_ir.specs.declared.ty.Ty.TheVariants as ty
use Rattle.vg_ir.specs.declared.ty.TypeAt.{TypeAt}
use Rattle.vg_irparse.specs.declared.part.Part.{Part}
use Rattle.vg_irparse.specs.declared.role.Role.{Role}
use Rattle.vg_irparse.specs.declared.role.Wanted.{Wanted}
use Rattle.vg_irparse.specs.Placed.{Placed, Slot, lexemes_of, marked}
use Rattle.vg_irparse.specs.Text.{is_local, spot, name_bytes, name_of}
use Rattle.vg_irparse.specs.Answer.{reads, leaves}
use Rattle.vg_irparse.specs.Concrete.{TypeTree, integer, pointer, array, structure, named}
use Rattle.vg_irparse.specs.Spelling.{integer_text, spelled_type}
use Rattle.vg_irparse.specs.Grammar.{is_length, is_type, are_more_types}
use Rattle.vg_irparse.specs.Tree as tree
use Rattle.vg_irparse.specs.ReadingType.{simple_type, bracketed_at, part_within, placed_type}
use Rattle.vg_irparse.specs.ExactType.{nesting, nesting_more}
use Rattle.vg_irparse.proofs.TypesSound.{simple_sound, bracketed_sound, part_sound, IsSimple, IsBracketed, made_is}
use Rattle.vg_irparse.proofs.TypesComplete.{part_of, simple_integer, simple_pointer, simple_local, array_complete, structure_complete, part_complete, more_complete, max_left, max_right}
use Rattle.vg_irparse.proofs.TypesPlace.{Again, slots_of, slots_are, no_mark, bracket_again, part_stops, type_append}
use Rattle.vg_irread.specs.Kinds.{is_in}
use Rattle.vg_irread.specs.Reading.{Reader}
use Rattle.vg_irread.specs.Exact.{Spelling, front, Found, Ends, Tells, Refused, Starts, IsExact}
use Rattle.vg_irread.specs.ReadingType.{type_in, type_at, a_type, type_kinds}
use Rattle.vg_irread.proofs.Single.{reads_not, leaves_not, same_reads, bind, bind_leaves, places, cut_once}

-- ---- beginnings

integer_starts : (a b c d : Bool) → is_in type_kinds (cond a (codes "i1") (cond b (codes "i8") (cond c (codes "i16") (cond d (codes "i32") (codes "i64"))))) ≡ true
integer_starts true b c d = refl
integer_starts false true c d = refl
integer_starts false false true d = refl
integer_starts false false false true = refl
integer_starts false false false false = refl

local_starts : (b : Bool) (text : List ℕ) → is_local text ≡ true → cond b true (cond (is_local text) true false) ≡ true
local_starts true text h = refl
local_starts false text h = rw h refl

type_starts : (role : Role) (t : TypeTree) → IsTrue (is_type t) → Starts type_kinds false (front (a_type role) t)
type_starts role (integer width at) g = integer_starts (nat_eq width 1) (nat_eq width 8) (nat_eq width 16) (nat_eq width 32)
type_starts role (pointer at) g = refl
type_starts role (array opening n by element closing) g = refl
type_starts role (structure opening first more closing) g = refl
type_starts role (named name) g = local_starts _ name.text g

-- ---- what is read is spelled

front_whole : (role : Role) (t : TypeTree) (rest : List Placed) → lexemes_of (spelled_type role t (slots_of rest)) ≡ front (a_type role) t ++ rest
front_whole role t rest = type_append t role role (slots_of rest) ∙ ap (λ z. front (a_type role) t ++ z) (slots_are rest)

found_simple : (role : Role) (d : ℕ) (first : Placed) (ts : List Placed) (t : Ty) → IsSimple first t → Found (a_type role) d (first ∷ ts) (record { ty = t; at = spot first.at; leaves = [] }) ts
found_simple role d first ts t s = record {
  tree = s.written;
  is_one = s.grammar;
  within = let e = s.flat in omega (arith, e);
  whole = ap (λ z. first ∷ z) (sym (slots_are ts)) ∙ (s.spelled role (slots_of ts) ∙ front_whole role s.written ts);
  same = made_is t (tree.type_of s.written) (spot first.at) (spot (tree.start_of s.written)) [] (tree.leaves_of s.written) s.ty_is s.at_is s.leaves_is;
}

found_bracketed : (role : Role) (d : ℕ) (first : Placed) (ts : List Placed) (p : Part) (rest : List Placed) → IsBracketed d first ts p rest
    → Found (a_type role) d (first ∷ ts) (record { ty = p.ty; at = spot first.at; leaves = p.leaves }) rest
found_bracketed role d first ts p rest b = record {
  tree = b.written;
  is_one = b.grammar;
  within = b.within;
  whole = b.spelled role (slots_of rest) (slots_are rest) ∙ front_whole role b.written rest;
  same = made_is p.ty (tree.type_of b.written) (spot first.at) (spot (tree.start_of b.written)) p.leaves (tree.leaves_of b.written) b.ty_is b.at_is b.leaves_is;
}

pub type_sound : (role : Role) (w : Wanted) (d : ℕ) (ts : List Placed) (x : TypeAt) (rest : List Placed) → type_at w d ts ≡ reads (x, rest) → Found (a_type role) d ts x rest
type_sound role w d [] x rest h = leaves_not h
type_sound role w d (t ∷ ts) x rest h = by_first (simple_type t.text) refl h
  where
    by_first : (o : Option Ty) → simple_type t.text ≡ o → type_in o w d t ts ≡ reads (x, rest) → Found (a_type role) d (t ∷ ts) x rest
    by_first (Some u) k m =
        subst (λ (z : TypeAt × List Placed). Found (a_type role) d (t ∷ ts) z.0 z.1) (same_reads (record { ty = u; at = spot t.at; leaves = [] }, ts) (x, rest) m)
        (found_simple role d t ts u (simple_sound t u k))
    by_first None k m =
        bind (bracketed_at (part_within d) w t ts) (λ p. reads (placed_type t.at p)) (x, rest) (Found (a_type role) d (t ∷ ts) x rest) m (λ p hp l.
        subst (λ (z : TypeAt × List Placed). Found (a_type role) d (t ∷ ts) z.0 z.1) (same_reads (placed_type t.at p) (x, rest) l)
        (found_bracketed role d t ts p.0 p.1 (bracketed_sound d (part_within d) (part_sound d) w t ts p hp)))

-- ---- what is spelled is read

simple_read : (w : Wanted) (d : ℕ) (first : Placed) (ts : List Placed) (t : Ty) → simple_type first.text ≡ Some t → type_at w d (first ∷ ts) ≡ reads (record { ty = t; at = spot first.at; leaves = [] }, ts)
simple_read w d first ts t h = rw h refl

bracket_read : (w : Wanted) (d : ℕ) (first : Placed) (ts : List Placed) (p : Part) (rest : List Placed) → simple_type first.text ≡ None
    → bracketed_at (part_within d) w first ts ≡ reads (p, rest) → type_at w d (first ∷ ts) ≡ reads (record { ty = p.ty; at = spot first.at; leaves = p.leaves }, rest)
bracket_read w d first ts p rest h k = rw (h, k) refl

slots_read : (t : TypeTree) → is_type t ≡ true → (d : ℕ) → nesting t ≤ d → (w : Wanted) (role : Role) (behind : List Slot)
    → type_at w d (lexemes_of (spelled_type role t behind)) ≡ reads (tree.type_at t, lexemes_of behind)
slots_read (integer width at) g d n w role behind = simple_read w d (marked (integer_text width) at) (lexemes_of behind) (ty.Int width) (simple_integer width g)
slots_read (pointer at) g d n w role behind = simple_read w d (marked (codes "ptr") at) (lexemes_of behind) ty.Ptr simple_pointer
slots_read (named name) g d n w role behind = simple_read w d name (lexemes_of behind) (ty.Named (name_of (name_bytes name.text))) (simple_local name.text g)
slots_read (array opening m by element closing) g d n w role behind =
    let p = and_parts (is_length m.text) (is_type element) g in
    bracket_read w d _ _ (part_of (array opening m by element closing)) (lexemes_of behind) refl
    (array_complete opening m by element closing p.0 d (part_complete element p.1 d (omega (arith, n))) w behind)
slots_read (structure opening first more closing) g d n w role behind =
    let p = and_parts (is_type first) (are_more_types more) g in
    let m : max (nesting first) (nesting_more more) < d = omega (arith, n) in
    bracket_read w d _ _ (part_of (structure opening first more closing)) (lexemes_of behind) refl
    (structure_complete opening first more closing d (part_complete first p.0 d (max_left _ _ d m)) (more_complete more p.1 d (max_right _ _ d m)) w behind)

type_complete : (role : Role) (w : Wanted) (t : TypeTree) → IsTrue (is_type t) → (d : ℕ) → nesting t ≤ d → (rest : List Placed) → Ends [] rest
    → type_at w d (front (a_type role) t ++ rest) ≡ reads (tree.type_at t, rest)
type_complete role w t g d n rest e =
    ap (type_at w d) (sym (front_whole role t rest))
    ∙ (slots_read t g d n w role (slots_of rest) ∙ ap (λ (z : List Placed). reads (tree.type_at t, z)) (slots_are rest))

-- ---- nothing decides behind what is read

ends_none : (rest : List Placed) → Ends [] rest
ends_none [] = tt
ends_none (t ∷ rest) = refl

pub again_alone : {T X : Type 0} (s : Spelling T X) (read : Reader X)
    → ((d : ℕ) (ts : List Placed) (x : X) (rest : List Placed) → read d ts ≡ reads (x, rest) → Found s d ts x rest)
    → ((t : T) → IsTrue (s.grammar t) → (d : ℕ) → s.nests t ≤ d → (rest : List Placed) → Ends [] rest → read d (front s t ++ rest) ≡ reads (s.means t, rest))
    → (d : ℕ) (x : X) (before : List Placed) (t : Placed) (us : List Placed) → read d (before ++ t ∷ us) ≡ reads (x, t ∷ us)
    → (e : ℕ) → d ≤ e → (vs : List Placed) → read e (before ++ t ∷ vs) ≡ reads (x, t ∷ vs)
again_alone {X = X} s read sound complete d x before t us h e l vs =
    let f = sound d (before ++ t ∷ us) x (t ∷ us) h in
    let c = cut_once before (t ∷ us) (front s f.tree) (t ∷ us) f.whole refl in
    ap (λ z. read e (z ++ t ∷ vs)) c
    ∙ (complete f.tree f.is_one e (let n = f.within in omega (arith, n, l)) (t ∷ vs) refl ∙ ap (λ (z : X). reads (z, t ∷ vs)) (sym f.same))

-- ---- what is refused leaves the types

-- the reader with its place, and the one without it
leaves_part : (w : Wanted) (d : ℕ) (ts : List Placed) (n : ℕ) (v : Wanted) → type_at w d ts ≡ leaves n v → part_within (suc d) w ts ≡ leaves n v
unfolding part_within
leaves_part w d [] n v h = let p = places 0 n w v h in ap (λ z. leaves z w) p.0 ∙ ap (λ z. leaves n z) p.1
leaves_part w d (t ∷ ts) n v h = by_first (simple_type t.text) refl h
  where
    by_first : (o : Option Ty) → simple_type t.text ≡ o → type_in o w d t ts ≡ leaves n v → part_within (suc d) w (t ∷ ts) ≡ leaves n v
    by_first (Some u) k m = reads_not m
    by_first None k m =
        bind_leaves (bracketed_at (part_within d) w t ts) (λ p. reads (placed_type t.at p)) n v (part_within (suc d) w (t ∷ ts) ≡ leaves n v) m
        (λ e. bracket_again d w t ts k ∙ e) (λ p hp l. reads_not l)

part_tells : (w : Wanted) (d : ℕ) (ts : List Placed) (n : ℕ) (v : Wanted) → Again (part_within (suc d) w ts) n v → Tells (type_at w d ts) n v
unfolding part_within
part_tells w d [] n v (inl h) = let p = places 0 n w v h in inl (ap (λ z. leaves z w) p.0 ∙ ap (λ z. leaves n z) p.1)
part_tells w d [] n v (inr h) = absurd (cc)
part_tells w d (t ∷ ts) n v h = by_first (simple_type t.text) refl h
  where
    by_first : (o : Option Ty) → simple_type t.text ≡ o → Again (part_within (suc d) w (t ∷ ts)) n v → Tells (type_in o w d t ts) n v
    by_first (Some u) k (inl m) = let e : part_within (suc d) w (t ∷ ts) ≡ reads (record { ty = u; leaves = spot t.at ∷ [] }, ts) = rw k refl in reads_not (sym e ∙ m)
    by_first (Some u) k (inr m) =
        let e : part_within (suc d) w (t ∷ ts) ≡ reads (record { ty = u; leaves = spot t.at ∷ [] }, ts) = rw k refl in
        let z = sym e ∙ m in
        absurd (cc)
    by_first None k (inl m) = let e = sym (bracket_again d w t ts k) ∙ m in inl (rw e refl)
    by_first None k (inr m) = let e = sym (bracket_again d w t ts k) ∙ m in inr (rw e refl)

-- the place is one at each greater depth
local_at : (w : Wanted) (d : ℕ) (ts : List Placed) (n : ℕ) (v : Wanted) → part_within (suc d) w ts ≡ leaves n v → (before behind : List Placed) → ts ≡ before ++ behind → length behind ≡ n
    → (t : Placed) (others : List Placed) → behind ≡ t ∷ others → (e : ℕ) → d ≤ e → (us : List Placed) → Again (part_within (suc e) w (before ++ t ∷ us)) (length us + 1) v
local_at w d ts n v h before behind q m t others f e l us =
    let s = part_stops (suc d) (suc e) (omega (arith, l)) w ts n v h in
    let g : s.front ++ s.rest ≡ before ++ behind = sym s.whole ∙ q in
    let k : length s.rest ≡ length behind = s.count ∙ sym m in
    let a = cut_once s.front s.rest before behind g k in
    let b : s.rest ≡ t ∷ others = append_cancel_left before s.rest behind (ap (λ z. z ++ s.rest) (sym a) ∙ g) ∙ f in
    let P : List Placed → Type 0 = λ z. Again (part_within (suc e) w (z ++ t ∷ us)) (length us + 1) v in
    subst P a (s.local t others b us)

type_placed : (role : Role) (w : Wanted) (d : ℕ) (ts : List Placed) (n : ℕ) (v : Wanted) → type_at w d ts ≡ leaves n v → Refused (a_type role) (type_at w) d ts n v
type_placed role w d ts n v h =
    let k = leaves_part w d ts n v h in
    let s = part_stops (suc d) (suc d) (omega arith) w ts n v k in
    let b = s.begun in
    record {
      before = s.front;
      behind = s.rest;
      whole = s.whole;
      count = s.count;
      begun = (b.0, b.1, b.2 ∷ (b.3 ++ []), b.4 role []);
      refuses = λ t others q e l us. part_tells w e (s.front ++ t ∷ us) (length us + 1) v (local_at w d ts n v k s.front s.rest s.whole s.count t others q e l us);
    }

pub type_exact : (role : Role) (w : Wanted) → IsExact (a_type role) type_kinds false [] (type_at w)
type_exact role w = record {
  some = pointer no_mark;
  some_is = refl;
  appends = λ t g ts. type_append t role role ts;
  starts = type_starts role;
  sound = type_sound role w;
  complete = type_complete role w;
  again = again_alone (a_type role) (type_at w) (type_sound role w) (type_complete role w);
  placed = type_placed role w;
}
