-- The items of lists by their places.
use Rattle.std.proofs.Common.{◌≡◌, ◌≢◌, ℕ, zero, suc, ◌+◌, ◌<◌, ◌⊎◌, inl, inr, List, [], ◌∷◌, ◌++◌, length, set, Some, refl, ap, arith}
use Rattle.std.specs.Prelude.{slice_get}
use Rattle.vg_graph.specs.Node.{IsIn}

pub gets-append_left : {X : Type 0} (xs ys : List X) (i : ℕ) (x : X) → slice_get xs i ≡ Some x → slice_get (xs ++ ys) i ≡ Some x
gets-append_left [] ys i x at = absurd cc
gets-append_left (y ∷ xs) ys zero x at = at
gets-append_left (y ∷ xs) ys (suc i) x at = gets-append_left xs ys i x at

pub gets-append_right : {X : Type 0} (xs ys : List X) (i : ℕ) (x : X) → slice_get ys i ≡ Some x → slice_get (xs ++ ys) (length xs + i) ≡ Some x
gets-append_right {X = X} [] ys i x at = let same : length {A = X} [] + i ≡ i = omega arith in rw same at
gets-append_right (y ∷ xs) ys i x at =
    let same : length (y ∷ xs) + i ≡ suc (length xs + i) = omega arith in
    rw same (gets-append_right xs ys i x at)

-- the item put behind a list
pub gets-end : {X : Type 0} (xs : List X) (x : X) → slice_get (xs ++ x ∷ []) (length xs) ≡ Some x
gets-end [] x = refl
gets-end (y ∷ xs) x = gets-end xs x

-- an item of two lists, one behind the other, is one of the first or of the second
pub gets-append : {X : Type 0} (xs ys : List X) (i : ℕ) (x : X) → slice_get (xs ++ ys) i ≡ Some x → (slice_get xs i ≡ Some x) ⊎ ((j : ℕ) × (i ≡ length xs + j) × (slice_get ys j ≡ Some x))
gets-append [] ys i x at = inr (i, omega arith, at)
gets-append (y ∷ xs) ys zero x at = inl at
gets-append (y ∷ xs) ys (suc i) x at = elim (gets-append xs ys i x at) [
  | inl left ↦ inl left
  | inr right ↦ inr (right.0, (let e : i ≡ length xs + right.0 = right.1 in omega arith), right.2)
]

-- an item of a list with one more is one of the list, or the one more
pub gets-pushed : {X : Type 0} (xs : List X) (y : X) (i : ℕ) (x : X) → slice_get (xs ++ y ∷ []) i ≡ Some x → (slice_get xs i ≡ Some x) ⊎ ((i ≡ length xs) × (y ≡ x))
gets-pushed [] y zero x at = inr (refl, cc)
gets-pushed [] y (suc i) x at = absurd cc
gets-pushed (z ∷ xs) y zero x at = inl at
gets-pushed (z ∷ xs) y (suc i) x at = elim (gets-pushed xs y i x at) [
  | inl left ↦ inl left
  | inr right ↦ inr (ap suc right.0, right.1)
]

pub gets-set_same : {X : Type 0} (xs : List X) (i : ℕ) (y : X) → i < length xs → slice_get (set xs i y) i ≡ Some y
gets-set_same [] i y below = absurd (omega arith)
gets-set_same (x ∷ xs) zero y below = refl
gets-set_same (x ∷ xs) (suc i) y below = gets-set_same xs i y (omega arith)

pub gets-set_other : {X : Type 0} (xs : List X) (i j : ℕ) (y : X) → j ≢ i → slice_get (set xs i y) j ≡ slice_get xs j
gets-set_other [] i j y differ = refl
gets-set_other (x ∷ xs) zero zero y differ = absurd (differ refl)
gets-set_other (x ∷ xs) zero (suc j) y differ = refl
gets-set_other (x ∷ xs) (suc i) zero y differ = refl
gets-set_other (x ∷ xs) (suc i) (suc j) y differ = gets-set_other xs i j y (λ same. differ (ap suc same))

pub In-append_left : {X : Type 0} (xs ys : List X) (x : X) → IsIn xs x → IsIn (xs ++ ys) x
In-append_left xs ys x has = (has.0, gets-append_left xs ys has.0 x has.1)

pub In-append_right : {X : Type 0} (xs ys : List X) (x : X) → IsIn ys x → IsIn (xs ++ ys) x
In-append_right xs ys x has = (length xs + has.0, gets-append_right xs ys has.0 x has.1)

pub In-append : {X : Type 0} (xs ys : List X) (x : X) → IsIn (xs ++ ys) x → IsIn xs x ⊎ IsIn ys x
In-append xs ys x has = elim (gets-append xs ys has.0 x has.1) [
  | inl left ↦ inl (has.0, left)
  | inr right ↦ inr (right.0, right.2)
]

pub In-one : {X : Type 0} (x : X) → IsIn (x ∷ []) x
In-one x = (0, refl)

pub one-In : {X : Type 0} (x y : X) → IsIn (x ∷ []) y → x ≡ y
one-In x y (zero, at) = cc
one-In x y (suc i, at) = absurd cc

pub nil-In : {X : Type 0} (y : X) → IsIn {X = X} [] y → ⊥
nil-In y (i, at) = cc
