-- The second reads of a behaviour are told at the places of those that are unlike its first read.
use Rattle.std.proofs.Common.{◌≡◌, ◌<◌, ℕ, length, get_or, nat_eq, nat_le, Bool, true, false, ◌||◌, ◌&&◌, not, List, [], ◌∷◌, None, if◌then◌else◌, refl, ap, sym, ◌∙◌, arith}
use Rattle.std.specs.List.{list_any}
use Rattle.std.proofs.lemmas.Bool.{and_parts, and_from}
use Rattle.vg_isa.specs.Same.{same_tree}
use Rattle.vg_isa.proofs.SameLemmas.{same_tree-equal, equal-same_tree}
use Rattle.vg_tree.specs.declared.reading.Reading.{Reading}
use Rattle.vg_tree.specs.Access.{same_reading, is_second, second_places}
use Rattle.vg_stage.specs.Earliest.{least}
use Rattle.vg_access.specs.Unlike.{unlike, first_by}
use Rattle.vg_access.proofs.UpTo.{any_up_to, one_least, told_up_to}

-- ---- reads that are the same

same_size : (n m : ℕ) → nat_eq n m ≡ true → n ≡ m
same_size n m e = grind arith

size_same : (n m : ℕ) → n ≡ m → nat_eq n m ≡ true
size_same n m e = grind arith

same_parts : (a b : Reading) → same_reading a b ≡ true → (a.address ≡ b.address) × (a.bytes ≡ b.bytes)
same_parts a b h =
    let k = and_parts (same_tree a.address b.address) (nat_eq a.bytes b.bytes) h in
    (same_tree-equal a.address b.address k.0, same_size a.bytes b.bytes k.1)

parts_same : (a b : Reading) → a.address ≡ b.address → a.bytes ≡ b.bytes → same_reading a b ≡ true
parts_same a b e f = and_from (same_tree a.address b.address) (nat_eq a.bytes b.bytes) (equal-same_tree a.address b.address e) (size_same a.bytes b.bytes f)

-- what isn't the same as one of two reads that are the same isn't the same as the other
unlike_both : (f r q : Reading) → same_reading f r ≡ true → same_reading q r ≡ false → same_reading f q ≡ false
unlike_both f r q h g = by (same_reading f q) refl
  where
    by : (b : Bool) → same_reading f q ≡ b → b ≡ false
    by false e = refl
    by true e =
        let one = same_parts f r h in
        let two = same_parts f q e in
        let is : same_reading q r ≡ true = parts_same q r (sym two.0 ∙ one.0) (sym two.1 ∙ one.1) in
        absurd (cc)

-- ---- some of a list

or_left : (b c : Bool) → b ≡ true → (b || c) ≡ true
or_left true c e = refl
or_left false c e = absurd (cc)

or_right : (b c : Bool) → c ≡ true → (b || c) ≡ true
or_right true c e = refl
or_right false c e = e

or_either : (b c d : Bool) → (b ≡ true → d ≡ true) → (c ≡ true → d ≡ true) → (b || c) ≡ true → d ≡ true
or_either true c d f g e = f refl
or_either false c d f g e = g e

same_bools : (b c : Bool) → (b ≡ true → c ≡ true) → (c ≡ true → b ≡ true) → b ≡ c
same_bools true true f g = refl
same_bools false false f g = refl
same_bools true false f g = sym (f refl)
same_bools false true f g = g refl

any_more : {X : Type 0} (p q : X → Bool) → ((x : X) → p x ≡ true → q x ≡ true) → (xs : List X) → list_any p xs ≡ true → list_any q xs ≡ true
any_more p q h [] e = absurd (cc)
any_more p q h (x ∷ xs) e =
    or_either (p x) (list_any p xs) (q x || list_any q xs) (λ k. or_left (q x) (list_any q xs) (h x k)) (λ k. or_right (q x) (list_any q xs) (any_more p q h xs k)) e

not_true : (b : Bool) → b ≡ false → not b ≡ true
not_true false e = refl
not_true true e = absurd (cc)

true_not : (b : Bool) → not b ≡ true → b ≡ false
true_not false e = refl
true_not true e = absurd (cc)

through : (a b c : ℕ) → nat_le a b ≡ true → nat_le b c ≡ true → nat_le a c ≡ true
through a b c e f = grind arith

-- ---- the first read

-- all of these stand at this place or behind
abbrev pub AreBehind : ℕ → List Reading → Type 0
AreBehind at [] = Unit {0}
AreBehind at (r ∷ more) = (nat_le at r.at ≡ true) × AreBehind at more

-- a read is one of these, and stands first of them
pub record IsFirst (readings : List Reading) (f : Reading) : Type 0 where
  pub behind : AreBehind f.at readings
  pub within : (p : Reading → Bool) → p f ≡ true → list_any p readings ≡ true

less_behind : (a b : ℕ) (rs : List Reading) → nat_le a b ≡ true → AreBehind b rs → AreBehind a rs
less_behind a b [] e h = h
less_behind a b (r ∷ rs) e h = (through a b r.at e h.0, less_behind a b rs e h.1)

itself : (n : ℕ) → nat_le n n ≡ true
itself n = grind arith

behind_not : (a b : ℕ) → nat_le a b ≡ false → nat_le b a ≡ true
behind_not a b e = grind arith

-- what holds of the one that stands first of a read and others
abbrev pub IsNearest : Reading → Reading → List Reading → Type 0
IsNearest g f rs = (nat_le g.at f.at ≡ true) × (AreBehind g.at rs × ((p : Reading → Bool) → p g ≡ true → (p f || list_any p rs) ≡ true))

one_more : (f r : Reading) (rs : List Reading) (b : Bool) → nat_le f.at r.at ≡ b → IsNearest (first_by f rs) f rs → IsNearest (first_by r rs) r rs → IsNearest (first_by (if b then f else r) rs) f (r ∷ rs)
one_more f r rs true e h k = (
  h.0,
  (
    (through (first_by f rs).at f.at r.at h.0 e, h.1.0),
    λ p u. or_either (p f) (list_any p rs) (p f || (p r || list_any p rs)) (λ t. or_left (p f) (p r || list_any p rs) t) (λ t. or_right (p f) (p r || list_any p rs) (or_right (p r) (list_any p rs) t)) (h.1.1 p u),
  ),
)
one_more f r rs false e h k = (
  through (first_by r rs).at r.at f.at k.0 (behind_not f.at r.at e),
  (
    (k.0, k.1.0),
    λ p u. or_right (p f) (p r || list_any p rs) (k.1.1 p u),
  ),
)

first_parts : (f : Reading) (rs : List Reading) → IsNearest (first_by f rs) f rs
first_parts f [] = (itself f.at, (tt, λ p e. or_left (p f) false e))
first_parts f (r ∷ rs) = one_more f r rs (nat_le f.at r.at) refl (first_parts f rs) (first_parts r rs)

first_is : (r : Reading) (rs : List Reading) → IsFirst (r ∷ rs) (first_by r (r ∷ rs))
first_is r rs =
    let h = first_parts r (r ∷ rs) in
    record { behind = h.1.0; within = λ p k. or_either (p r) (p r || list_any p rs) (p r || list_any p rs) (λ t. or_left (p r) (list_any p rs) t) (λ t. t) (h.1.1 p k) }

-- ---- places up to a number

module _ (all : List Reading) (f : Reading) (first : IsFirst all f) (n : ℕ) where
  abbrev second_up_to : Reading → Bool
  second_up_to r = is_second all r && nat_le r.at n

  abbrev unlike_up_to : Reading → Bool
  unlike_up_to r = not (same_reading f r) && nat_le r.at n

  seconds : (rs : List Reading) → any_up_to n (second_places all rs) ≡ list_any second_up_to rs
  seconds [] = refl
  seconds (r ∷ rs) = told_up_to n r.at (is_second all r) (second_places all rs) ∙ ap (λ b. second_up_to r || b) (seconds rs)

  unlikes : (rs : List Reading) → any_up_to n (unlike f rs) ≡ list_any unlike_up_to rs
  unlikes [] = refl
  unlikes (r ∷ rs) = told_up_to n r.at (not (same_reading f r)) (unlike f rs) ∙ ap (λ b. unlike_up_to r || b) (unlikes rs)

  -- one unlike the first is a second read
  second_by_first : (r : Reading) → nat_le f.at r.at ≡ true → same_reading f r ≡ false → is_second all r ≡ true
  second_by_first r e g = first.within (λ q. nat_le q.at r.at && not (same_reading q r)) (and_from (nat_le f.at r.at) (not (same_reading f r)) e (not_true (same_reading f r) g))

  backward : (rs : List Reading) → AreBehind f.at rs → list_any unlike_up_to rs ≡ true → list_any second_up_to rs ≡ true
  backward [] h e = absurd (cc)
  backward (r ∷ rs) h e =
      or_either (unlike_up_to r) (list_any unlike_up_to rs) (second_up_to r || list_any second_up_to rs)
      (λ k. let u = and_parts (not (same_reading f r)) (nat_le r.at n) k in
      or_left (second_up_to r) (list_any second_up_to rs) (and_from (is_second all r) (nat_le r.at n) (second_by_first r h.0 (true_not (same_reading f r) u.0)) u.1))
      (λ k. or_right (second_up_to r) (list_any second_up_to rs) (backward rs h.1 k)) e

  -- a second read is unlike the first, or so is that in front of it
  one_forward : (r : Reading) → (unlike_up_to r ≡ true → list_any unlike_up_to all ≡ true) → second_up_to r ≡ true → list_any unlike_up_to all ≡ true
  one_forward r here e = by (same_reading f r) refl
    where
      s : (is_second all r ≡ true) × (nat_le r.at n ≡ true)
      s = and_parts (is_second all r) (nat_le r.at n) e

      by : (b : Bool) → same_reading f r ≡ b → list_any unlike_up_to all ≡ true
      by false g = here (and_from (not (same_reading f r)) (nat_le r.at n) (not_true (same_reading f r) g) s.1)
      by true g =
          any_more (λ q. nat_le q.at r.at && not (same_reading q r)) unlike_up_to
          (λ q k. let u = and_parts (nat_le q.at r.at) (not (same_reading q r)) k in
          and_from (not (same_reading f q)) (nat_le q.at n) (not_true (same_reading f q) (unlike_both f r q g (true_not (same_reading q r) u.1))) (through q.at r.at n u.0 s.1))
          all s.0

  forward : (rs : List Reading) → (list_any unlike_up_to rs ≡ true → list_any unlike_up_to all ≡ true) → list_any second_up_to rs ≡ true → list_any unlike_up_to all ≡ true
  forward [] h e = absurd (cc)
  forward (r ∷ rs) h e =
      or_either (second_up_to r) (list_any second_up_to rs) (list_any unlike_up_to all)
      (λ k. one_forward r (λ u. h (or_left (unlike_up_to r) (list_any unlike_up_to rs) u)) k)
      (λ k. forward rs (λ u. h (or_right (unlike_up_to r) (list_any unlike_up_to rs) u)) k) e

  one_number : any_up_to n (second_places all all) ≡ any_up_to n (unlike f all)
  one_number =
      seconds all
      ∙ same_bools (list_any second_up_to all) (list_any unlike_up_to all) (forward all (λ u. u)) (backward all first.behind)
      ∙ sym (unlikes all)

-- the least place of a second read
pub least_second : (rs : List Reading) (d : Reading) → 0 < length rs → least (unlike (first_by (get_or rs 0 d) rs) rs) ≡ least (second_places rs rs)
least_second [] d e = absurd (omega (arith, e))
least_second (r ∷ rs) d e =
    sym (one_least (second_places (r ∷ rs) (r ∷ rs)) (unlike (first_by r (r ∷ rs)) (r ∷ rs)) (one_number (r ∷ rs) (first_by r (r ∷ rs)) (first_is r rs)))

pub no_second : (rs : List Reading) → length rs ≡ 0 → None ≡ least (second_places rs rs)
no_second [] e = refl
no_second (r ∷ rs) e = absurd (omega (arith, e))
