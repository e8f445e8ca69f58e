-- The reader of initialisers is exact.
use Rattle.std.proofs.Common.{◌≡◌, ◌⊎◌, ℕ, zero, suc, ◌+◌, ◌≤◌, max, Bool, true, false, ◌&&◌, ◌||◌, Option, Some, None, List, [], ◌∷◌, ◌++◌, length, codes, refl, sym, ap, subst, ◌∙◌, arith, IsTrue, inl, inr}
use Rattle.std.proofs.lemmas.Bool.{and_parts, and_from, or_cases}
use Rattle.std.proofs.lemmas.List.{append_cancel_left}
use Rattle.vg_irlex.specs.Lexing.{is_c_quoted}
use Rattle.vg_ir.specs.declared.initializer.Initializer.{Initializer}
use Rattle.vg_ir.specs.declared.initializer.Initializer.TheVariants as initials
use Rattle.vg_ir.specs.declared.ty.TypeAt.{TypeAt}
use Rattle.vg_ir.specs.Shape.{integer_width}
use Rattle.vg_irparse.specs.declared.role.Role.TheVariants as roles
use Rattle.vg_irparse.specs.declared.role.Wanted.{Wanted}
use Rattle.vg_irparse.specs.Placed.{Placed, Mark, Slot, plain, any_type, initial, lexemes_of}
use Rattle.vg_irparse.specs.Text.{is_global, spot, digits_value, name_of, name_bytes}
use Rattle.vg_irparse.specs.Answer.{reads, leaves}
use Rattle.vg_irparse.specs.ReadingType.{wanted}
use Rattle.vg_irparse.specs.Words.{same_text, is_one_of, constant_words}
use Rattle.vg_irparse.specs.Concrete.{TypeTree, integer, pointer, array, structure, named, InitialTree, simple, elements, fields, MoreInitials}
use Rattle.vg_irparse.specs.Grammar.{is_type, is_number_at, is_simple_at, is_initial_at}
use Rattle.vg_irparse.specs.Spelling.{spelled_more_initials}
use Rattle.vg_irparse.specs.Tree as tree
use Rattle.vg_irparse.specs.ExactType.{nesting}
use Rattle.vg_irread.specs.Kinds.{Kind, words, c_quoted, global, number, is_in}
use Rattle.vg_irread.specs.Reading.{Reader}
use Rattle.vg_irread.specs.Exact.{Spelling, front, both, sign, one, nothing, many, either, Found, Ends, Tells, Refused, IsExact}
use Rattle.vg_irread.specs.ReadingType.{type_kinds}
use Rattle.vg_irread.specs.ReadingOperand.{behind, is_number_for}
use Rattle.vg_irread.proofs.Apart.{in_head, in_tail}
use Rattle.vg_irread.proofs.Single.{done_exact, cut_once}
use Rattle.vg_irread.proofs.Layers.{width-Int, width-Ptr, width-Array, width-Struct, width-Named}
use Rattle.vg_irread.proofs.Pairs.{both_exact}
use Rattle.vg_irread.proofs.Many.{many_exact}
use Rattle.vg_irread.proofs.Either.{either_exact}
use Rattle.vg_irread.proofs.Same.{same_exact, Covers}
use Rattle.vg_irread.proofs.Weaker.{weaker_exact}
use Rattle.vg_irread.proofs.TypesExact.{type_exact, again_alone}
use Rattle.vg_irread.proofs.OperandsExact.{taken_exact, sign_exact, width_same}
use Rattle.vg_irglobal.specs.ReadingInitial.{is_simple_for, simple_of, simple_at, simple_kinds, part_at, next_part_at, comma, parts_at, elements_at, fields_at, initial_within, initial_at, initial_kinds}
use Rattle.vg_irglobal.specs.ExactInitial.{depth, type_depth, type_depth_more, an_initial}
use Rattle.vg_irglobal.proofs.Lids.{lid_exact}
use Rattle.vg_irglobal.proofs.Below.{refused_on}
use Rattle.vg_irglobal.proofs.Rows.{is_bounded, are_bounded, bounded_is, is_within, bounded, Part, a_part, a_next, Row, a_row, more_of, list_of, there_and_back, more_spelled, more_means, more_nests, more_grammar, list_grammar}

-- ---- one lexeme

number_kind : (width : Option ℕ) (t : List ℕ) → is_number_for width t ≡ true → is_in (number ∷ []) t ≡ true
number_kind (Some n) t h = in_head number [] t ((and_parts _ _ h).0)
number_kind None t h = in_head number [] t h

simple_kind : (width : Option ℕ) (t : List ℕ) → is_simple_for width t ≡ true → is_in simple_kinds t ≡ true
simple_kind width t h =
    elim (or_cases ((is_global t || is_one_of constant_words t) || (same_text (codes "zeroinitializer") t || is_c_quoted t)) (is_number_for width t) h) [
      | inl x ↦ elim (or_cases (is_global t || is_one_of constant_words t) (same_text (codes "zeroinitializer") t || is_c_quoted t) x) [
        | inl y ↦ elim (or_cases (is_global t) (is_one_of constant_words t) y) [
          | inl z ↦ in_head global (words constant_words ∷ words (codes "zeroinitializer" ∷ []) ∷ c_quoted ∷ number ∷ []) t z
          | inr z ↦ in_tail global (words constant_words ∷ words (codes "zeroinitializer" ∷ []) ∷ c_quoted ∷ number ∷ []) t (in_head (words constant_words) (words (codes "zeroinitializer" ∷ []) ∷ c_quoted ∷ number ∷ []) t z)
        ]
        | inr y ↦ in_tail global (words constant_words ∷ words (codes "zeroinitializer" ∷ []) ∷ c_quoted ∷ number ∷ []) t (in_tail (words constant_words) (words (codes "zeroinitializer" ∷ []) ∷ c_quoted ∷ number ∷ []) t (elim (or_cases (same_text (codes "zeroinitializer") t) (is_c_quoted t) y) [
          | inl z ↦ in_head (words (codes "zeroinitializer" ∷ [])) (c_quoted ∷ number ∷ []) t (rw z refl)
          | inr z ↦ in_tail (words (codes "zeroinitializer" ∷ [])) (c_quoted ∷ number ∷ []) t (in_head c_quoted (number ∷ []) t z)
        ]))
      ]
      | inr x ↦ in_tail global (words constant_words ∷ words (codes "zeroinitializer" ∷ []) ∷ c_quoted ∷ number ∷ []) t (in_tail (words constant_words) (words (codes "zeroinitializer" ∷ []) ∷ c_quoted ∷ number ∷ []) t (in_tail (words (codes "zeroinitializer" ∷ [])) (c_quoted ∷ number ∷ []) t (in_tail c_quoted (number ∷ []) t (number_kind width t x))))
    ]

abbrev a_simple : Option ℕ → Spelling Placed Initializer
a_simple width = one initial (λ l. is_simple_for width l.text) simple_of

simple_exact : (width : Option ℕ) → IsExact (a_simple width) simple_kinds false [] (simple_at width)
simple_exact width = taken_exact initial (is_simple_for width) simple_of simple_kinds (codes "@a") refl (simple_kind width) (behind roles.Initial)

-- one by a type's tree is one by its width
simple_same : (t : TypeTree) (text : List ℕ) → is_simple_at t text ≡ is_simple_for (integer_width (tree.type_of t)) text
simple_same (integer width at) text = ap (λ z. is_simple_for z text) (sym (width-Int width))
simple_same (pointer at) text = ap (λ z. is_simple_for z text) (sym width-Ptr)
simple_same (array opening n by element closing) text = ap (λ z. is_simple_for z text) (sym (width-Array (digits_value n.text) (tree.type_of element)))
simple_same (structure opening first more closing) text = ap (λ z. is_simple_for z text) (sym (width-Struct (tree.type_of first ∷ tree.types_of more)))
simple_same (named name) text = ap (λ z. is_simple_for z text) (sym (width-Named (name_of (name_bytes name.text))))

simple_at_type : (t : TypeTree) (v : Option ℕ) → v ≡ integer_width (tree.type_of t) → (text : List ℕ) → is_simple_at t text ≡ is_simple_for v text
simple_at_type t v e text = simple_same t text ∙ ap (λ z. is_simple_for z text) (sym e)

-- ---- rows

part_made : (x y : TypeAt) (i j : Initializer) → x ≡ y → i ≡ j → ◌≡◌ {A = TypeAt × Initializer} (x, i) (y, j)
part_made x y i j e f = cc

cons_made : {A : Type 0} (x y : A) (xs ys : List A) → x ≡ y → xs ≡ ys → x ∷ xs ≡ y ∷ ys
cons_made x y xs ys e f = cc

-- what reads initialisers at each type with so many brackets
abbrev IsReader : ℕ → (Option ℕ → Reader Initializer) → Type 0
IsReader n read = (t : TypeTree) (v : Option ℕ) → v ≡ integer_width (tree.type_of t) → IsExact (bounded n t) initial_kinds false [] (read v)

module _ {n : ℕ} {read : Option ℕ → Reader Initializer} (i : IsReader n read) where
  part_exact : IsExact (a_part n) type_kinds false [] (part_at read)
  unfolding part_at
  part_exact =
      both_exact (type_exact any_type (wanted roles.AnyType))
      (λ x t g e. both_exact (i t (integer_width x.ty) (width_same x (tree.type_at t) e)) (λ y j h f. done_exact (x, y) (tree.type_at t, tree.initial_of j) (part_made x (tree.type_at t) y (tree.initial_of j) e f)) refl) refl

  next_exact : IsExact (a_next n) comma false [] (next_part_at read)
  unfolding next_part_at
  next_exact = both_exact (sign_exact plain (codes ",") (wanted roles.Plain)) (λ x m g e. part_exact) refl

  abbrev parts : Spelling (Part × (List (Mark × Part) × Unit {0})) (List (TypeAt × Initializer))
  parts = both (a_part n) (λ p. both (many (a_next n)) (λ ms. nothing ((a_part n).means p ∷ (many (a_next n)).means ms)))

  parts_exact : IsExact parts type_kinds false comma (parts_at read)
  unfolding parts_at
  parts_exact = both_exact part_exact (λ x p g e. both_exact (many_exact next_exact refl) (λ xs ms h f. done_exact (x ∷ xs) _ (cons_made x _ xs _ e f)) refl) refl

  row_of : Part × (List (Mark × Part) × Unit {0}) → Row
  row_of p = ((p.0.0, p.0.1.0), more_of p.1.0)

  row_back : Row → Part × (List (Mark × Part) × Unit {0})
  row_back r = ((r.0.0, (r.0.1, tt)), (list_of r.1, tt))

  row_forth : (p : Part × (List (Mark × Part) × Unit {0})) → IsTrue (parts.grammar p) → Covers parts (a_row n) p
  unfolding row_of
  row_forth p g =
      let a = and_parts ((a_part n).grammar p.0) _ g in
      let b = and_parts (is_type p.0.0) _ a.0 in
      let c = and_parts (is_bounded n p.0.0 p.0.1.0) true b.1 in
      let m = and_parts ((many (a_next n)).grammar p.1.0) true a.1 in
      record {
        other = row_of p;
        is_one = and_from _ _ (and_from (is_type p.0.0) (is_bounded n p.0.0 p.0.1.0) b.0 c.0) (more_grammar n p.1.0 m.0);
        same = record {
          spelled = λ ts. ap (λ z. lexemes_of ((a_part n).spelled p.0 z)) (more_spelled n p.1.0 ts);
          means = ap (λ z. (a_part n).means p.0 ∷ z) (more_means n p.1.0);
          nests = let e = more_nests n p.1.0 in omega (arith, e);
        };
      }

  row_cover : (r : Row) → IsTrue ((a_row n).grammar r) → Covers (a_row n) parts r
  unfolding row_back
  row_cover r g =
      let a = and_parts (is_type r.0.0 && is_bounded n r.0.0 r.0.1) (are_bounded n r.1) g in
      let b = and_parts (is_type r.0.0) (is_bounded n r.0.0 r.0.1) a.0 in
      let e = there_and_back r.1 in
      record {
        other = row_back r;
        is_one = and_from _ _ (and_from (is_type r.0.0) _ b.0 (and_from (is_bounded n r.0.0 r.0.1) true b.1 refl)) (and_from _ true (list_grammar n r.1 a.1) refl);
        same = record {
          spelled = λ ts. ap (λ z. lexemes_of ((a_part n).spelled (r.0.0, (r.0.1, tt)) z)) (sym (more_spelled n (list_of r.1) ts ∙ ap (λ z. spelled_more_initials z ts) e));
          means = ap (λ z. (tree.type_at r.0.0, tree.initial_of r.0.1) ∷ z) (sym (more_means n (list_of r.1) ∙ ap tree.initials_of e));
          nests = let f = more_nests n (list_of r.1) ∙ ap type_depth_more e in omega (arith, f);
        };
      }

  row_exact : IsExact (a_row n) type_kinds false comma (parts_at read)
  row_exact = same_exact parts_exact row_forth row_cover

  -- ---- in brackets

  abbrev bracketed : List ℕ → List ℕ → (List (TypeAt × Initializer) → ℕ → Initializer) → Spelling (Mark × (Row × (Mark × Unit {0}))) Initializer
  bracketed opening closing made =
      both (sign initial opening) (λ o. both (a_row n) (λ r. both (sign plain closing) (λ c. nothing (made ((a_row n).means r) o.at))))

  made_same : (made : List (TypeAt × Initializer) → ℕ → Initializer) (x y : ℕ) (xs ys : List (TypeAt × Initializer)) → x ≡ y → xs ≡ ys → made xs x ≡ made ys y
  made_same made x y xs ys e f = cc

  abbrev made_array : List (TypeAt × Initializer) → ℕ → Initializer
  made_array xs at = initials.Array xs (spot at)

  abbrev made_struct : List (TypeAt × Initializer) → ℕ → Initializer
  made_struct xs at = initials.Struct xs (spot at)

  elements_exact : IsExact (bracketed (codes "[") (codes "]") made_array) (words (codes "[" ∷ []) ∷ []) false [] (elements_at read)
  unfolding elements_at
  elements_exact =
      both_exact (sign_exact initial (codes "[") (behind roles.Initial))
      (λ x o g e. both_exact row_exact (λ xs r h f. both_exact (sign_exact plain (codes "]") (wanted roles.Plain)) (λ y c k l. done_exact _ _ (made_same made_array x o.at xs _ e f)) refl) refl) refl

  fields_exact : IsExact (bracketed (codes "{") (codes "}") made_struct) (words (codes "{" ∷ []) ∷ []) false [] (fields_at read)
  unfolding fields_at
  fields_exact =
      both_exact (sign_exact initial (codes "{") (behind roles.Initial))
      (λ x o g e. both_exact row_exact (λ xs r h f. both_exact (sign_exact plain (codes "}") (wanted roles.Plain)) (λ y c k l. done_exact _ _ (made_same made_struct x o.at xs _ e f)) refl) refl) refl

  -- ---- one bracket more

  abbrev InBrackets : Type 0
  InBrackets = Mark × (Row × (Mark × Unit {0}))

  abbrev any_of : Option ℕ → Spelling (InBrackets ⊎ (InBrackets ⊎ Placed)) Initializer
  any_of v = either (bracketed (codes "[") (codes "]") made_array) (either (bracketed (codes "{") (codes "}") made_struct) (a_simple v))

  row_true : (r : Row) (m : Bool) → ((a_row n).grammar r && (m && true)) ≡ true → (a_row n).grammar r ≡ true
  row_true r m h = (and_parts ((a_row n).grammar r) (m && true) h).0

  any_forth : (t : TypeTree) (v : Option ℕ) → v ≡ integer_width (tree.type_of t) → (x : InBrackets ⊎ (InBrackets ⊎ Placed)) → IsTrue ((any_of v).grammar x) → Covers (any_of v) (bounded (suc n) t) x
  any_forth t v e (inl b) g = record {
    other = elements b.0 b.1.0.0.0 b.1.0.0.1 b.1.0.1 b.1.1.0;
    is_one = row_true b.1.0 true g;
    same = record { spelled = λ ts. refl; means = refl; nests = omega arith };
  }
  any_forth t v e (inr (inl b)) g = record {
    other = fields b.0 b.1.0.0.0 b.1.0.0.1 b.1.0.1 b.1.1.0;
    is_one = row_true b.1.0 true g;
    same = record { spelled = λ ts. refl; means = refl; nests = omega arith };
  }
  any_forth t v e (inr (inr l)) g = record {
    other = simple l;
    is_one = simple_at_type t v e l.text ∙ g;
    same = record { spelled = λ ts. refl; means = refl; nests = refl };
  }

  any_back : (t : TypeTree) (v : Option ℕ) → v ≡ integer_width (tree.type_of t) → (x : InitialTree) → IsTrue (is_bounded (suc n) t x) → Covers (bounded (suc n) t) (any_of v) x
  any_back t v e (elements opening u j more closing) g = record {
    other = inl (opening, (((u, j), more), (closing, tt)));
    is_one = and_from ((a_row n).grammar ((u, j), more)) true g refl;
    same = record { spelled = λ ts. refl; means = refl; nests = omega arith };
  }
  any_back t v e (fields opening u j more closing) g = record {
    other = inr (inl (opening, (((u, j), more), (closing, tt))));
    is_one = and_from ((a_row n).grammar ((u, j), more)) true g refl;
    same = record { spelled = λ ts. refl; means = refl; nests = omega arith };
  }
  any_back t v e (simple l) g = record {
    other = inr (inr l);
    is_one = sym (simple_at_type t v e l.text) ∙ g;
    same = record { spelled = λ ts. refl; means = refl; nests = refl };
  }

-- ---- any number of brackets

within_exact : (n : ℕ) → IsReader n (initial_within n)
unfolding initial_within
within_exact zero t v e =
    weaker_exact
    (same_exact (lid_exact (words (codes "[" ∷ []) ∷ []) (lid_exact (words (codes "{" ∷ []) ∷ []) (simple_exact v) refl) refl) (λ l g. record {
      other = simple l;
      is_one = simple_at_type t v e l.text ∙ g;
      same = record { spelled = λ ts. refl; means = refl; nests = refl };
    }) (λ x g. only_simple x g))
    initial_kinds (λ s h. in_tail (words (codes "[" ∷ [])) (words (codes "{" ∷ []) ∷ simple_kinds) s (in_tail (words (codes "{" ∷ [])) simple_kinds s h)) [] (λ s h. h)
  where
    only_simple : (x : InitialTree) → IsTrue (is_bounded zero t x) → Covers (bounded zero t) (a_simple v) x
    only_simple (simple l) g = record {
      other = l;
      is_one = sym (simple_at_type t v e l.text) ∙ g;
      same = record { spelled = λ ts. refl; means = refl; nests = refl };
    }
    only_simple (elements opening u j more closing) g = absurd (cc)
    only_simple (fields opening u j more closing) g = absurd (cc)
within_exact (suc n) t v e =
    let i = within_exact n in
    same_exact (either_exact (elements_exact i) (either_exact (fields_exact i) (simple_exact v) refl) refl) (any_forth i t v e) (any_back i t v e)

module _ (t : TypeTree) where
  abbrev the_width : Option ℕ
  the_width = integer_width (tree.type_of t)

  of_depth : (n : ℕ) → IsExact (bounded n t) initial_kinds false [] (initial_within n the_width)
  of_depth n = within_exact n t the_width refl

  sound : (d : ℕ) (ts : List Placed) (x : Initializer) (rest : List Placed) → initial_at the_width d ts ≡ reads (x, rest) → Found (an_initial t) d ts x rest
  sound d ts x rest h =
      let f = (of_depth d).sound d ts x rest h in
      let b = bounded_is d t f.tree f.is_one in
      record { tree = f.tree; is_one = b.0; within = let y = b.1 in let z = f.within in omega (arith, y, z); whole = f.whole; same = f.same }

  complete : (i : InitialTree) → IsTrue (is_initial_at t i) → (d : ℕ) → max (depth i) (type_depth i) ≤ d → (rest : List Placed) → Ends [] rest
      → initial_at the_width d (front (an_initial t) i ++ rest) ≡ reads (tree.initial_of i, rest)
  complete i g d n rest e = (of_depth d).complete i (is_within d t i g (omega (arith, n))) d (omega (arith, n)) rest e

  -- with more room the place is the same
  refuses : (d : ℕ) (ts : List Placed) (n : ℕ) (w : Wanted) → initial_at the_width d ts ≡ leaves n w → (before behind : List Placed) → ts ≡ before ++ behind → length behind ≡ n
      → (a : Placed) (others : List Placed) → behind ≡ a ∷ others → (e : ℕ) → d ≤ e → (us : List Placed) → Tells (initial_at the_width e (before ++ a ∷ us)) (length us + 1) w
  refuses d ts n w h before behind q m a others f e l us =
      let r = (of_depth e).placed d ts n w (refused_on d e l the_width d ts n w h) in
      let g : r.before ++ r.behind ≡ before ++ behind = sym r.whole ∙ q in
      let c = cut_once r.before r.behind before behind g (r.count ∙ sym m) in
      let b : r.behind ≡ a ∷ others = append_cancel_left before r.behind behind (ap (λ z. z ++ r.behind) (sym c) ∙ g) ∙ f in
      subst (λ z. Tells (initial_at the_width e (z ++ a ∷ us)) (length us + 1) w) c (r.refuses a others b e l us)

  placed : (d : ℕ) (ts : List Placed) (n : ℕ) (w : Wanted) → initial_at the_width d ts ≡ leaves n w → Refused (an_initial t) (initial_at the_width) d ts n w
  placed d ts n w h =
      let r = (of_depth d).placed d ts n w h in
      let b = r.begun in
      record {
        before = r.before;
        behind = r.behind;
        whole = r.whole;
        count = r.count;
        begun = (b.0, (bounded_is d t b.0 b.1).0, b.2, b.3);
        refuses = refuses d ts n w h r.before r.behind r.whole r.count;
      }

  pub initial_exact : IsExact (an_initial t) initial_kinds false [] (initial_at the_width)
  initial_exact =
      let i = of_depth 0 in
      record {
        some = i.some;
        some_is = (bounded_is 0 t i.some i.some_is).0;
        appends = λ j g ts. (of_depth (depth j)).appends j (is_within (depth j) t j g (omega arith)) ts;
        starts = λ j g. (of_depth (depth j)).starts j (is_within (depth j) t j g (omega arith));
        sound = sound;
        complete = complete;
        again = again_alone (an_initial t) (initial_at the_width) sound complete;
        placed = placed;
      }
