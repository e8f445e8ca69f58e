-- What tests of lists, of two things at once and of numbers tell.
use Rattle.std.proofs.Common.{◌≡◌, ℕ, zero, suc, ◌<◌, ◌≤◌, nat_eq, nat_le, nat_lt, arith, Bool, true, List, [], ◌∷◌, slice_get, Some, subst}
use Rattle.std.specs.List.{list_all}
use Rattle.std.proofs.lemmas.Bool.Decides.{nat_tests}
pub use Rattle.std.proofs.lemmas.Bool.{and_parts as both}

-- a test that each item of a list passes holds of the one at an index
pub list_all-slice_get : {X : Type 0} (p : X → Bool) (xs : List X) (i : ℕ) (x : X) → list_all p xs ≡ true → slice_get xs i ≡ Some x → p x ≡ true
list_all-slice_get p [] i x all at = cc
list_all-slice_get p (y ∷ ys) zero x all at = let same : y ≡ x = cc in subst (λ z. p z ≡ true) same (both (p y) (list_all p ys) all).0
list_all-slice_get p (y ∷ ys) (suc i) x all at = list_all-slice_get p ys i x (both (p y) (list_all p ys) all).1 at

pub nat_lt-true : (m n : ℕ) → m < n → nat_lt m n ≡ true
nat_lt-true m n h = grind (arith, nat_tests)

pub true-nat_lt : (m n : ℕ) → nat_lt m n ≡ true → m < n
true-nat_lt m n h = grind (arith, nat_tests)

pub true-nat_le : (m n : ℕ) → nat_le m n ≡ true → m ≤ n
true-nat_le m n h = grind (arith, nat_tests)

pub nat_eq-true : (m n : ℕ) → m ≡ n → nat_eq m n ≡ true
nat_eq-true m n h = grind (arith, nat_tests)

pub true-nat_eq : (m n : ℕ) → nat_eq m n ≡ true → m ≡ n
true-nat_eq m n h = grind (arith, nat_tests)
