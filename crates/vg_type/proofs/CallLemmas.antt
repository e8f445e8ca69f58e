-- What is found of a call, by what is found of its arguments one after the other.
use Rattle.std.proofs.Common.{◌≡◌, ℕ, suc, ◌+◌, Bool, true, false, ◌&&◌, ◌||◌, nat_eq, List, [], ◌∷◌, map, length, slice_get, drop, get_or, add-one, drop-cons, ◌<◌, ◌≤◌, Option, Some, None, refl, ap, sym, ◌∙◌, arith, if◌then◌else◌}
use Rattle.std.proofs.lemmas.Bool.Decides.{nat_tests}
use Rattle.std.proofs.Math.ListN.{drop_of_length-le}
use Rattle.std.specs.Option.{option_or}
use Rattle.vg_ast.specs.declared.name.Name.{Name}
use Rattle.vg_ast.specs.declared.expr.Expr.{Expr}
use Rattle.vg_names.specs.First.{first_of}
use Rattle.vg_names.proofs.FirstLemmas.{first_of_append, first_of_three}
use Rattle.vg_type.specs.declared.value_type.ValueType.{ValueType}
use Rattle.vg_type.specs.declared.judgement.Judgement.{Judgement}
use Rattle.vg_type.specs.declared.taking.Taking.{Taking}
use Rattle.vg_type.specs.ValueType.{is_untyped}
use Rattle.vg_type.specs.Judged.{Judged, unfit, is_any_untyped, all_widths, argument_ranges, is_argument, are_arguments, types_for}
use Rattle.vg_type.specs.Expression.{Signature, call_judged, is_faulty, result_type}
use Rattle.vg_type.specs.Found.{first_found, first_unfit, settled_found}
use Rattle.vg_type.specs.Calls.{flat, nothing_taken, take_one, both_taken, taken_from, types_asked, call_type, call_found}
use Rattle.vg_type.proofs.FoundLemmas.{settled_by}

untyped_taken : (types : ℕ → Option ValueType) (k : ℕ) (A : List Judged) → is_any_untyped A ≡ (taken_from types k A).untyped
untyped_taken types k [] = refl
untyped_taken types k (j ∷ more) = ap (λ (t : Bool). is_untyped j.sort || t) (untyped_taken types (k + 1) more)

width_taken : (types : ℕ → Option ValueType) (k : ℕ) (A : List Judged) → first_of (all_widths A) ≡ (taken_from types k A).width
width_taken types k [] = refl
width_taken types k (j ∷ more) = first_of_append j.widths (all_widths more) ∙ ap (option_or (first_of j.widths)) (width_taken types (k + 1) more)

or_none : (o : Option ℕ) → option_or o None ≡ o
or_none None = refl
or_none (Some n) = refl

abbrev Agrees : (ℕ → Option ValueType) → ℕ → List (Option ValueType) → Type 0
Agrees types k ts = (i : ℕ) → types (k + i) ≡ flat (slice_get ts i)

here : (types : ℕ → Option ValueType) (k : ℕ) (ts : List (Option ValueType)) → Agrees types k ts → types k ≡ flat (slice_get ts 0)
here types k ts h =
    let e : k + 0 ≡ k = omega arith in
    ap types (sym e) ∙ h 0

behind : (types : ℕ → Option ValueType) (k : ℕ) (t : Option ValueType) (ts : List (Option ValueType)) → Agrees types k (t ∷ ts) → Agrees types (k + 1) ts
behind types k t ts h i =
    let e : k + 1 + i ≡ k + suc i = omega arith in
    ap types e ∙ h (suc i)

none_behind : (types : ℕ → Option ValueType) (k : ℕ) → Agrees types k [] → Agrees types (k + 1) []
none_behind types k h i =
    let e : k + 1 + i ≡ k + suc i = omega arith in
    ap types e ∙ h (suc i)

range_taken : (types : ℕ → Option ValueType) (k : ℕ) (ts : List (Option ValueType)) (A : List Judged) → Agrees types k ts → first_of (argument_ranges ts A) ≡ (taken_from types k A).range
range_taken types k [] [] h = refl
range_taken types k (t ∷ ts) [] h = refl
range_taken types k [] (j ∷ more) h =
    first_of_append j.ranges (argument_ranges [] more)
    ∙ ap (λ (o : Option ℕ). option_or o (first_of (argument_ranges [] more))) (sym (or_none (first_of j.ranges)) ∙ ap (λ (t : Option ValueType). option_or (first_of j.ranges) (first_unfit t (first_found j))) (sym (here types k [] h)))
    ∙ ap (option_or (option_or (first_of j.ranges) (first_unfit (types k) (first_found j)))) (range_taken types (k + 1) [] more (none_behind types k h))
range_taken types k (t ∷ ts) (j ∷ more) h =
    first_of_three j.ranges (unfit t j) (argument_ranges ts more)
    ∙ ap (λ (u : Option ValueType). option_or (option_or (first_of j.ranges) (first_unfit u (first_found j))) (first_of (argument_ranges ts more))) (sym (here types k (t ∷ ts) h))
    ∙ ap (option_or (option_or (first_of j.ranges) (first_unfit (types k) (first_found j)))) (range_taken types (k + 1) ts more (behind types k t ts h))

fits_taken : (types : ℕ → Option ValueType) (k : ℕ) (ts : List (Option ValueType)) (A : List Judged) → Agrees types k ts → nat_eq (length ts) (length A) ≡ true → are_arguments ts A ≡ (taken_from types k A).fits
fits_taken types k [] [] h e = refl
fits_taken types k (t ∷ ts) [] h e = grind (arith, nat_tests, e)
fits_taken types k [] (j ∷ more) h e = grind (arith, nat_tests, e)
fits_taken types k (t ∷ ts) (j ∷ more) h e =
    let e' : nat_eq (length ts) (length more) ≡ true = grind (arith, nat_tests, e) in
    ap (λ (b : Bool). is_argument t j.sort && b) (fits_taken types (k + 1) ts more (behind types k t ts h) e')
    ∙ ap (λ (u : Option ValueType). is_argument u j.sort && (taken_from types (k + 1) more).fits) (sym (here types k (t ∷ ts) h))

unequal : (ts : List (Option ValueType)) (A : List Judged) → nat_eq (length ts) (length A) ≡ false → are_arguments ts A ≡ false
unequal [] [] e = e
unequal (t ∷ ts) [] e = refl
unequal [] (j ∷ more) e = refl
unequal (t ∷ ts) (j ∷ more) e =
    let e' : nat_eq (length ts) (length more) ≡ false = grind (arith, nat_tests, e) in
    either (is_argument t j.sort) (are_arguments ts more) (unequal ts more e')
  where
    either : (b c : Bool) → c ≡ false → (b && c) ≡ false
    either true c h = h
    either false c h = refl

-- the types that are asked for, where there are so many arguments, and where there aren't
asked_agree : (s : Signature) (n : ℕ) → nat_eq (length s.parameters) n ≡ true → Agrees (types_asked (Some s) n) 0 s.parameters
asked_agree s n e i =
    let h : 0 + i ≡ i = omega arith in
    ap (λ (b : Bool). if b then flat (slice_get s.parameters (0 + i)) else None) e ∙ ap (λ (k : ℕ). flat (slice_get s.parameters k)) h

none_agree : (s : Signature) (n : ℕ) → nat_eq (length s.parameters) n ≡ false → Agrees (types_asked (Some s) n) 0 []
none_agree s n e i = ap (λ (b : Bool). if b then flat (slice_get s.parameters (0 + i)) else None) e

if_none : (b : Bool) (o : Option ValueType) → o ≡ None → (if b then o else None) ≡ None
if_none true o h = h
if_none false o h = refl

nothing_agrees : (n : ℕ) → Agrees (types_asked None n) 0 []
nothing_agrees n i = if_none (nat_eq 0 n) None refl

ranges_by : (s : Signature) (A : List Judged) (t : Bool) → nat_eq (length s.parameters) (length A) ≡ t
    → first_of (argument_ranges (types_for s.parameters A) A) ≡ (taken_from (types_asked (Some s) (length A)) 0 A).range
ranges_by s A true e =
    ap (λ (b : Bool). first_of (argument_ranges (if b then s.parameters else []) A)) e ∙ range_taken (types_asked (Some s) (length A)) 0 s.parameters A (asked_agree s (length A) e)
ranges_by s A false e =
    ap (λ (b : Bool). first_of (argument_ranges (if b then s.parameters else []) A)) e ∙ range_taken (types_asked (Some s) (length A)) 0 [] A (none_agree s (length A) e)

fits_by : (s : Signature) (A : List Judged) (t : Bool) → nat_eq (length s.parameters) (length A) ≡ t
    → are_arguments s.parameters A ≡ (nat_eq (length s.parameters) (length A) && (taken_from (types_asked (Some s) (length A)) 0 A).fits)
fits_by s A true e =
    fits_taken (types_asked (Some s) (length A)) 0 s.parameters A (asked_agree s (length A) e) e
    ∙ ap (λ (b : Bool). b && (taken_from (types_asked (Some s) (length A)) 0 A).fits) (sym e)
fits_by s A false e = unequal s.parameters A e ∙ ap (λ (b : Bool). b && (taken_from (types_asked (Some s) (length A)) 0 A).fits) (sym e)

or_true : (b : Bool) → true ≡ (b || true)
or_true true = refl
or_true false = refl

pub found_call : (name : Name) (s : Option Signature) (A : List Judged) → first_found (call_judged name s A) ≡ call_found name.at s (length A) (taken_from (types_asked s (length A)) 0 A)
unfolding call_found
found_call name None A =
    let taking = taken_from (types_asked None (length A)) 0 A in
    settled_by name.at true (all_widths A) (argument_ranges [] A) None taking.width taking.range (width_taken (types_asked None (length A)) 0 A)
    (range_taken (types_asked None (length A)) 0 [] A (nothing_agrees (length A)))
    ∙ ap (λ (b : Bool). settled_found name.at b taking.width taking.range (call_type None (length A) taking)) (or_true taking.untyped)
found_call name (Some s) A =
    let taking = taken_from (types_asked (Some s) (length A)) 0 A in
    settled_by name.at (is_any_untyped A || is_faulty s) (all_widths A) (argument_ranges (types_for s.parameters A) A) (result_type s A) taking.width taking.range
    (width_taken (types_asked (Some s) (length A)) 0 A) (ranges_by s A (nat_eq (length s.parameters) (length A)) refl)
    ∙ ap (λ (b : Bool). settled_found name.at (b || is_faulty s) taking.width taking.range (result_type s A)) (untyped_taken (types_asked (Some s) (length A)) 0 A)
    ∙ ap (λ (b : Bool). settled_found name.at (taking.untyped || is_faulty s) taking.width taking.range (if b then s.result else None))
    (fits_by s A (nat_eq (length s.parameters) (length A)) refl)

-- ---- one argument after the other

or_assoc : (a b c : Bool) → ((a || b) || c) ≡ (a || (b || c))
or_assoc true b c = refl
or_assoc false b c = refl

and_assoc : (a b c : Bool) → ((a && b) && c) ≡ (a && (b && c))
and_assoc true b c = refl
and_assoc false b c = refl

option_assoc : (a b c : Option ℕ) → option_or (option_or a b) c ≡ option_or a (option_or b c)
option_assoc None b c = refl
option_assoc (Some n) b c = refl

abbrev taking_of : Bool → Option ℕ → Option ℕ → Bool → Taking
taking_of u w r f = record { untyped = u; width = w; range = r; fits = f }

same_taking : (u u' : Bool) (w w' r r' : Option ℕ) (f f' : Bool) → u ≡ u' → w ≡ w' → r ≡ r' → f ≡ f' → taking_of u w r f ≡ taking_of u' w' r' f'
same_taking u u' w w' r r' f f' a b c d =
    ap (λ x. taking_of x w r f) a ∙ ap (λ x. taking_of u' x r f) b ∙ ap (λ x. taking_of u' w' x f) c ∙ ap (λ x. taking_of u' w' r' x) d

both_assoc : (a b c : Taking) → both_taken (both_taken a b) c ≡ both_taken a (both_taken b c)
both_assoc a b c =
    same_taking _ _ _ _ _ _ _ _ (or_assoc a.untyped b.untyped c.untyped) (option_assoc a.width b.width c.width) (option_assoc a.range b.range c.range) (and_assoc a.fits b.fits c.fits)

or_false : (b : Bool) → (b || false) ≡ b
or_false true = refl
or_false false = refl

and_true : (b : Bool) → (b && true) ≡ b
and_true true = refl
and_true false = refl

both_nothing : (a : Taking) → both_taken a nothing_taken ≡ a
both_nothing a = same_taking _ _ _ _ _ _ _ _ (or_false a.untyped) (or_none a.width) (or_none a.range) (and_true a.fits)

module _ (judge : Expr → Judged) (types : ℕ → Option ValueType) (xs : List Expr) (k : ℕ) (acc : Taking)
    (so_far : taken_from types 0 (map judge xs) ≡ both_taken acc (taken_from types k (map judge (drop k xs)))) where
  pub taken_on : (x : Expr) (new one : Taking) (has : Option ValueType) (f : Judgement) → k < length xs → x ≡ get_or xs k x
      → new ≡ both_taken acc one → one ≡ take_one has f → has ≡ types k → f ≡ first_found (judge x)
      → taken_from types 0 (map judge xs) ≡ both_taken new (taken_from types (k + 1) (map judge (drop (k + 1) xs)))
  taken_on x new one has f within is e g h i =
      so_far
      ∙ ap (λ (l : List Expr). both_taken acc (taken_from types k (map judge l))) (drop-cons xs k x within)
      ∙ ap (λ (y : Expr). both_taken acc (taken_from types k (judge y ∷ map judge (drop (suc k) xs)))) (sym is)
      ∙ ap (λ (n : ℕ). both_taken acc (taken_from types k (judge x ∷ map judge (drop n xs)))) (sym (add-one k))
      ∙ sym (both_assoc acc (take_one (types k) (first_found (judge x))) (taken_from types (k + 1) (map judge (drop (k + 1) xs))))
      ∙ ap (λ (t : Taking). both_taken t (taken_from types (k + 1) (map judge (drop (k + 1) xs))))
      (sym (e ∙ ap (both_taken acc) (g ∙ ap (λ (t : Option ValueType). take_one t f) h ∙ ap (take_one (types k)) i)))

  pub taken_all : length xs ≤ k → acc ≡ taken_from types 0 (map judge xs)
  taken_all beyond =
      sym (so_far ∙ ap (λ (l : List Expr). both_taken acc (taken_from types k (map judge l))) (drop_of_length-le xs beyond) ∙ both_nothing acc)
