-- Numbers that differ, each from those in front of it.
use Rattle.std.proofs.Common.{◌≡◌, ℕ, Bool, true, false, not, ◌&&◌, ◌||◌, nat_eq, List, [], ◌∷◌, ◌++◌, refl, ap, sym, ◌∙◌, arith}
use Rattle.std.specs.List.{list_all, list_any}
use Rattle.std.proofs.lemmas.Bool.Decides.{nat_tests}
use Rattle.std.proofs.lemmas.List.Folds.{list_any-append}
use Rattle.vg_isa.specs.Same.{all_differ}

-- each of a list differs from those in front of it, these and others
unfoldable pub differ_behind : List ℕ → List ℕ → Bool
differ_behind front [] = true
differ_behind front (n ∷ more) = not (list_any (nat_eq n) front) && differ_behind (front ++ n ∷ []) more

abbrev is_new : List ℕ → ℕ → Bool
is_new front n = not (list_any (nat_eq n) front)

eq_sym : (m n : ℕ) → nat_eq m n ≡ nat_eq n m
eq_sym m n = grind (arith, nat_tests)

not_or : (a b : Bool) → not (a || (b || false)) ≡ (not a && not b)
not_or true b = refl
not_or false true = refl
not_or false false = refl

new_pushed : (front : List ℕ) (n m : ℕ) → is_new (front ++ n ∷ []) m ≡ (is_new front m && not (nat_eq m n))
new_pushed front n m = ap not (list_any-append (nat_eq m) front (n ∷ [])) ∙ not_or (list_any (nat_eq m) front) (nat_eq m n)

middle : (a b c d : Bool) → ((a && not b) && (c && not d)) ≡ ((a && c) && not (b || d))
middle false b c d = refl
middle true true true d = refl
middle true true false d = refl
middle true false c d = refl

new_all : (front : List ℕ) (n : ℕ) (more : List ℕ) → list_all (is_new (front ++ n ∷ [])) more ≡ (list_all (is_new front) more && not (list_any (nat_eq n) more))
new_all front n [] = refl
new_all front n (m ∷ more) =
    ap (λ t. t && list_all (is_new (front ++ n ∷ [])) more) (new_pushed front n m ∙ ap (λ t. is_new front m && not t) (eq_sym m n))
    ∙ ap (λ t. (is_new front m && not (nat_eq n m)) && t) (new_all front n more)
    ∙ middle (is_new front m) (nat_eq n m) (list_all (is_new front) more) (list_any (nat_eq n) more)

turn : (a b c d : Bool) → (a && (b && (c && not d))) ≡ ((not d && b) && (a && c))
turn true true true true = refl
turn true true true false = refl
turn true true false true = refl
turn true true false false = refl
turn true false c true = refl
turn true false c false = refl
turn false true c true = refl
turn false true c false = refl
turn false false c true = refl
turn false false c false = refl

behind_is : (front more : List ℕ) → differ_behind front more ≡ (all_differ nat_eq more && list_all (is_new front) more)
unfolding differ_behind
behind_is front [] = refl
behind_is front (n ∷ more) =
    ap (λ t. is_new front n && t) (behind_is (front ++ n ∷ []) more ∙ ap (λ t. all_differ nat_eq more && t) (new_all front n more))
    ∙ turn (is_new front n) (all_differ nat_eq more) (list_all (is_new front) more) (list_any (nat_eq n) more)

all_new : (more : List ℕ) → list_all (is_new []) more ≡ true
all_new [] = refl
all_new (n ∷ more) = all_new more

and_true : (a : Bool) → (a && true) ≡ a
and_true true = refl
and_true false = refl

-- with none in front
pub behind_none : (more : List ℕ) → all_differ nat_eq more ≡ differ_behind [] more
behind_none more = sym (behind_is [] more ∙ ap (λ t. all_differ nat_eq more && t) (all_new more) ∙ and_true (all_differ nat_eq more))

pub differ_end : (front : List ℕ) → differ_behind front [] ≡ true
unfolding differ_behind
differ_end front = refl

pub differ_met : (front : List ℕ) (n : ℕ) (more : List ℕ) → list_any (nat_eq n) front ≡ true → differ_behind front (n ∷ more) ≡ false
unfolding differ_behind
differ_met front n more e = ap (λ t. not t && differ_behind (front ++ n ∷ []) more) e

pub differ_new : (front : List ℕ) (n : ℕ) (more : List ℕ) → list_any (nat_eq n) front ≡ false → differ_behind front (n ∷ more) ≡ differ_behind (front ++ n ∷ []) more
unfolding differ_behind
differ_new front n more e = ap (λ t. not t && differ_behind (front ++ n ∷ []) more) e
