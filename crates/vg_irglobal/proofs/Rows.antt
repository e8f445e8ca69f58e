-- The parts of an initialiser, and how deep they are, along its tree.
use Rattle.std.proofs.Common.{◌≡◌, ℕ, zero, suc, ◌+◌, ◌≤◌, max, Bool, true, false, ◌&&◌, List, [], ◌∷◌, map, codes, refl, sym, ap, subst, ◌∙◌, arith}
use Rattle.std.proofs.lemmas.Bool.{and_parts, and_from}
use Rattle.std.specs.List.{list_all}
use Rattle.vg_ir.specs.declared.initializer.Initializer.{Initializer}
use Rattle.vg_ir.specs.declared.ty.TypeAt.{TypeAt}
use Rattle.vg_irparse.specs.Placed.{Mark, Slot, plain, any_type, lexemes_of}
use Rattle.vg_irparse.specs.Concrete.{TypeTree, InitialTree, simple, elements, fields, MoreInitials, no_more_initial, one_more_initial}
use Rattle.vg_irparse.specs.Grammar.{is_type, is_simple_at, is_initial_at, are_more_initials}
use Rattle.vg_irparse.specs.Spelling.{spelled_type, spelled_initial, spelled_more_initials, spelled_list}
use Rattle.vg_irparse.specs.Tree as tree
use Rattle.vg_irparse.specs.ExactType.{nesting}
use Rattle.vg_irread.specs.Exact.{Spelling, both, sign, nothing, many, greatest}
use Rattle.vg_irread.specs.ReadingType.{a_type}
use Rattle.vg_irglobal.specs.ExactInitial.{depth, depth_more, type_depth, type_depth_more}

-- initialisers at a type with at most so many brackets in one another
abbrev mutual
  pub is_bounded : ℕ → TypeTree → InitialTree → Bool
  is_bounded n t (simple value) = is_simple_at t value.text
  is_bounded zero t (elements opening u i more closing) = false
  is_bounded (suc n) t (elements opening u i more closing) = (is_type u && is_bounded n u i) && are_bounded n more
  is_bounded zero t (fields opening u i more closing) = false
  is_bounded (suc n) t (fields opening u i more closing) = (is_type u && is_bounded n u i) && are_bounded n more

  pub are_bounded : ℕ → MoreInitials → Bool
  are_bounded n no_more_initial = true
  are_bounded n (one_more_initial comma u i more) = (is_type u && is_bounded n u i) && are_bounded n more

-- what is said of the first part, of the others, and of both
abbrev first_of : (n : ℕ) (u : TypeTree) (i : InitialTree) (more : MoreInitials) → ((is_type u && is_bounded n u i) && are_bounded n more) ≡ true
    → (is_type u ≡ true) × (is_bounded n u i ≡ true) × (are_bounded n more ≡ true)
first_of n u i more h =
    let p = and_parts (is_type u && is_bounded n u i) (are_bounded n more) h in
    let q = and_parts (is_type u) (is_bounded n u i) p.0 in
    (q.0, q.1, p.1)

abbrev plain_of : (u : TypeTree) (i : InitialTree) (more : MoreInitials) → ((is_type u && is_initial_at u i) && are_more_initials more) ≡ true
    → (is_type u ≡ true) × (is_initial_at u i ≡ true) × (are_more_initials more ≡ true)
plain_of u i more h =
    let p = and_parts (is_type u && is_initial_at u i) (are_more_initials more) h in
    let q = and_parts (is_type u) (is_initial_at u i) p.0 in
    (q.0, q.1, p.1)

three : (a b c : Bool) → a ≡ true → b ≡ true → c ≡ true → ((a && b) && c) ≡ true
three a b c h k l = and_from (a && b) c (and_from a b h k) l

max_is : (a b n : ℕ) → a ≤ n → b ≤ n → max a b ≤ n
max_is a b n h k = omega (arith, h, k)

join_is : (n : ℕ) (u : TypeTree) (i : InitialTree) (more : MoreInitials) → is_type u ≡ true → (is_initial_at u i ≡ true) × (depth i ≤ n) → (are_more_initials more ≡ true) × (depth_more more ≤ n)
    → (((is_type u && is_initial_at u i) && are_more_initials more) ≡ true) × (max (depth i) (depth_more more) ≤ n)
join_is n u i more h a b = (three (is_type u) (is_initial_at u i) (are_more_initials more) h a.0 b.0, max_is (depth i) (depth_more more) n a.1 b.1)

over : (n d : ℕ) (P : Type 0) → P × (d ≤ n) → P × (d + 1 ≤ suc n)
over n d P h = (h.0, let l = h.1 in omega (arith, l))

mutual
  pub bounded_is : (n : ℕ) (t : TypeTree) (i : InitialTree) → is_bounded n t i ≡ true → (is_initial_at t i ≡ true) × (depth i ≤ n)
  bounded_is n t (simple value) h = (h, omega arith)
  bounded_is zero t (elements opening u i more closing) h = absurd (cc)
  bounded_is (suc n) t (elements opening u i more closing) h =
      over n _ _ (join_is n u i more (first_of n u i more h).0 (bounded_is n u i (first_of n u i more h).1) (more_are n more (first_of n u i more h).2))
  bounded_is zero t (fields opening u i more closing) h = absurd (cc)
  bounded_is (suc n) t (fields opening u i more closing) h =
      over n _ _ (join_is n u i more (first_of n u i more h).0 (bounded_is n u i (first_of n u i more h).1) (more_are n more (first_of n u i more h).2))

  more_are : (n : ℕ) (more : MoreInitials) → are_bounded n more ≡ true → (are_more_initials more ≡ true) × (depth_more more ≤ n)
  more_are n no_more_initial h = (refl, omega arith)
  more_are n (one_more_initial comma u i more) h =
      join_is n u i more (first_of n u i more h).0 (bounded_is n u i (first_of n u i more h).1) (more_are n more (first_of n u i more h).2)

max_left : (a b n : ℕ) → max a b ≤ n → a ≤ n
max_left a b n h = omega (arith, h)

max_right : (a b n : ℕ) → max a b ≤ n → b ≤ n
max_right a b n h = omega (arith, h)

under : (d n : ℕ) → d + 1 ≤ suc n → d ≤ n
under d n h = omega (arith, h)

none_under : {A : Type 0} (d : ℕ) → d + 1 ≤ 0 → A
none_under d h = absurd (omega (arith, h))

mutual
  pub is_within : (n : ℕ) (t : TypeTree) (i : InitialTree) → is_initial_at t i ≡ true → depth i ≤ n → is_bounded n t i ≡ true
  is_within n t (simple value) h l = h
  is_within zero t (elements opening u i more closing) h l = none_under _ l
  is_within (suc n) t (elements opening u i more closing) h l =
      three (is_type u) (is_bounded n u i) (are_bounded n more) (plain_of u i more h).0
      (is_within n u i (plain_of u i more h).1 (max_left (depth i) (depth_more more) n (under _ n l))) (more_within n more (plain_of u i more h).2 (max_right (depth i) (depth_more more) n (under _ n l)))
  is_within zero t (fields opening u i more closing) h l = none_under _ l
  is_within (suc n) t (fields opening u i more closing) h l =
      three (is_type u) (is_bounded n u i) (are_bounded n more) (plain_of u i more h).0
      (is_within n u i (plain_of u i more h).1 (max_left (depth i) (depth_more more) n (under _ n l))) (more_within n more (plain_of u i more h).2 (max_right (depth i) (depth_more more) n (under _ n l)))

  more_within : (n : ℕ) (more : MoreInitials) → are_more_initials more ≡ true → depth_more more ≤ n → are_bounded n more ≡ true
  more_within n no_more_initial h l = refl
  more_within n (one_more_initial comma u i more) h l =
      three (is_type u) (is_bounded n u i) (are_bounded n more) (plain_of u i more h).0
      (is_within n u i (plain_of u i more h).1 (max_left (depth i) (depth_more more) n l)) (more_within n more (plain_of u i more h).2 (max_right (depth i) (depth_more more) n l))

-- ---- spellings

abbrev pub bounded : ℕ → TypeTree → Spelling InitialTree Initializer
bounded n t = record { grammar = is_bounded n t; spelled = spelled_initial; means = tree.initial_of; nests = type_depth }

-- T INIT
abbrev pub Part : Type 0
Part = TypeTree × (InitialTree × Unit {0})

abbrev pub a_part : ℕ → Spelling Part (TypeAt × Initializer)
a_part n = both (a_type any_type) (λ t. both (bounded n t) (λ i. nothing (tree.type_at t, tree.initial_of i)))

-- , T INIT
abbrev pub a_next : ℕ → Spelling (Mark × Part) (TypeAt × Initializer)
a_next n = both (sign plain (codes ",")) (λ m. a_part n)

-- T INIT , ..
abbrev pub Row : Type 0
Row = (TypeTree × InitialTree) × MoreInitials

abbrev pub a_row : ℕ → Spelling Row (List (TypeAt × Initializer))
a_row n = record {
  grammar = λ r. (is_type r.0.0 && is_bounded n r.0.0 r.0.1) && are_bounded n r.1;
  spelled = λ r ts. spelled_type any_type r.0.0 (spelled_initial r.0.1 (spelled_more_initials r.1 ts));
  means = λ r. (tree.type_at r.0.0, tree.initial_of r.0.1) ∷ tree.initials_of r.1;
  nests = λ r. max (max (nesting r.0.0) (type_depth r.0.1)) (type_depth_more r.1);
}

-- ---- rows as lists

abbrev pub more_of : List (Mark × Part) → MoreInitials
more_of [] = no_more_initial
more_of (m ∷ ms) = one_more_initial m.0 m.1.0 m.1.1.0 (more_of ms)

abbrev pub list_of : MoreInitials → List (Mark × Part)
list_of no_more_initial = []
list_of (one_more_initial comma t i more) = (comma, (t, (i, tt))) ∷ list_of more

pub there_and_back : (more : MoreInitials) → more_of (list_of more) ≡ more
there_and_back no_more_initial = refl
there_and_back (one_more_initial comma t i more) = ap (λ z. one_more_initial comma t i z) (there_and_back more)

pub more_spelled : (n : ℕ) (ms : List (Mark × Part)) (ts : List Slot) → spelled_list ((a_next n).spelled) ms ts ≡ spelled_more_initials (more_of ms) ts
more_spelled n [] ts = refl
more_spelled n (m ∷ ms) ts = ap (λ z. (a_next n).spelled m z) (more_spelled n ms ts)

pub more_means : (n : ℕ) (ms : List (Mark × Part)) → map ((a_next n).means) ms ≡ tree.initials_of (more_of ms)
more_means n [] = refl
more_means n (m ∷ ms) = ap (λ z. (tree.type_at m.1.0, tree.initial_of m.1.1.0) ∷ z) (more_means n ms)

pub more_nests : (n : ℕ) (ms : List (Mark × Part)) → greatest (map ((a_next n).nests) ms) ≡ type_depth_more (more_of ms)
more_nests n [] = refl
more_nests n (m ∷ ms) = let e = more_nests n ms in omega (arith, e)

pub more_grammar : (n : ℕ) (ms : List (Mark × Part)) → list_all ((a_next n).grammar) ms ≡ true → are_bounded n (more_of ms) ≡ true
more_grammar n [] h = refl
more_grammar n (m ∷ ms) h =
    let p = and_parts ((a_next n).grammar m) (list_all ((a_next n).grammar) ms) h in
    let q = and_parts (is_type m.1.0) (is_bounded n m.1.0 m.1.1.0 && true) (and_parts true _ p.0).1 in
    and_from (is_type m.1.0 && is_bounded n m.1.0 m.1.1.0) (are_bounded n (more_of ms))
    (and_from (is_type m.1.0) (is_bounded n m.1.0 m.1.1.0) q.0 (and_parts (is_bounded n m.1.0 m.1.1.0) true q.1).0) (more_grammar n ms p.1)

pub list_grammar : (n : ℕ) (more : MoreInitials) → are_bounded n more ≡ true → list_all ((a_next n).grammar) (list_of more) ≡ true
list_grammar n no_more_initial h = refl
list_grammar n (one_more_initial comma t i more) h =
    let p = and_parts (is_type t && is_bounded n t i) (are_bounded n more) h in
    let q = and_parts (is_type t) (is_bounded n t i) p.0 in
    and_from ((a_next n).grammar (comma, (t, (i, tt)))) (list_all ((a_next n).grammar) (list_of more))
    (and_from true _ refl (and_from (is_type t) (is_bounded n t i && true) q.0 (and_from (is_bounded n t i) true q.1 refl))) (list_grammar n more p.1)
