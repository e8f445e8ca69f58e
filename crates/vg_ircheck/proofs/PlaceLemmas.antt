-- The first of places that stand in several lists.
use Rattle.std.proofs.Common.{◌≡◌, Bool, true, false, true≢false, List, [], ◌∷◌, ◌++◌, Option, Some, None, if◌then◌else◌, refl, sym, ap, ◌∙◌, arith}
use Rattle.std.proofs.lemmas.Bool.Decides.{nat_tests}
use Rattle.vg_ir.specs.declared.spot.Spot.{Spot}
use Rattle.vg_ircheck.specs.Place.{is_before, earlier, first_of, first_place}

before_goes_on : (a b c : Spot) → is_before c b ≡ true → is_before b a ≡ true → is_before c a ≡ true
before_goes_on a b c h k = grind (arith, nat_tests)

not_before_goes_on : (a b c : Spot) → is_before c b ≡ false → is_before b a ≡ false → is_before c a ≡ false
not_before_goes_on a b c h k = grind (arith, nat_tests)

chosen : {A : Type 0} (p q r : Bool) (a b c : A) → (q ≡ true → p ≡ true → r ≡ true) → (q ≡ false → p ≡ false → r ≡ false)
    → (if q then (if r then c else a) else (if p then b else a)) ≡ (if p then (if q then c else b) else (if r then c else a))
chosen true true true a b c h k = refl
chosen true true false a b c h k = absurd (true≢false (sym (h refl refl)))
chosen true false r a b c h k = refl
chosen false true r a b c h k = refl
chosen false false true a b c h k = absurd (true≢false (k refl refl))
chosen false false false a b c h k = refl

choose : {A B : Type 0} (p : Bool) (x y : A) (f : A → B) → f (if p then x else y) ≡ (if p then f x else f y)
choose true x y f = refl
choose false x y f = refl

earlier_of_three : (a b c : Spot) → earlier a (earlier b c) ≡ earlier (earlier a b) c
earlier_of_three a b c =
    choose (is_before c b) c b (earlier a)
    ∙ chosen (is_before b a) (is_before c b) (is_before c a) a b c (before_goes_on a b c) (not_before_goes_on a b c)
    ∙ sym (choose (is_before b a) b a (λ s. earlier s c))

pub first_of_none : (o : Option Spot) → first_of o None ≡ o
first_of_none None = refl
first_of_none (Some s) = refl

pub first_of_three : (x y z : Option Spot) → first_of x (first_of y z) ≡ first_of (first_of x y) z
first_of_three None y z = refl
first_of_three (Some a) None z = refl
first_of_three (Some a) (Some b) None = refl
first_of_three (Some a) (Some b) (Some c) = ap Some (earlier_of_three a b c)

-- the first place of two lists
pub first_of_both : (xs ys : List Spot) → first_place (xs ++ ys) ≡ first_of (first_place xs) (first_place ys)
unfolding first_place
first_of_both [] ys = refl
first_of_both (x ∷ xs) ys = ap (first_of (Some x)) (first_of_both xs ys) ∙ first_of_three (Some x) (first_place xs) (first_place ys)

-- no place is the first of none
pub first_of_nothing : first_place [] ≡ None
unfolding first_place
first_of_nothing = refl

-- a place by itself
pub first_of_one : (s : Spot) → first_place (s ∷ []) ≡ Some s
unfolding first_place
first_of_one s = refl
