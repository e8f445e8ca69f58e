-- How far a walk along a list has come.
use Rattle.std.proofs.Common.{◌≡◌, ℕ, zero, suc, ◌+◌, ◌<◌, inl, inr, List, [], ◌∷◌, length, Option, Some, None, sym, ap, arith}
use Rattle.std.specs.Prelude.{slice_get}
use Rattle.std.proofs.lemmas.Bool.Decides.{eqb_tells}
use Rattle.vg_graph.specs.Walk.{IsOnce, left_from, left_at}

IsOnce-tail : (x : ℕ) (xs : List ℕ) → IsOnce (x ∷ xs) → IsOnce xs
IsOnce-tail x xs once n i j at_i at_j = let same : suc i ≡ suc j = once n (suc i) (suc j) at_i at_j in omega arith

-- from the number at a place on there are as many numbers as stand there and behind it
left_from-at : (n place : ℕ) (xs : List ℕ) → IsOnce xs → slice_get xs place ≡ Some n → left_from n xs + place ≡ length xs
left_from-at n place [] once at = absurd cc
left_from-at n zero (x ∷ xs) once at = elim (eqb_tells x n) [
  | inl (test, _) ↦ rw test (omega arith)
  | inr (_, differ) ↦ absurd (let same : x ≡ n = cc in differ same)
]
left_from-at n (suc place) (x ∷ xs) once at = elim (eqb_tells x n) [
  | inl (_, same) ↦ absurd (let first : 0 ≡ suc place = once n 0 (suc place) (ap Some same) at in omega arith)
  | inr (test, _) ↦ rw test (let rest : left_from n xs + place ≡ length xs = left_from-at n place xs (IsOnce-tail x xs once) at in omega arith)
]

-- behind a number there are fewer
pub left_shrinks : (n place : ℕ) (xs : List ℕ) (next : Option ℕ) → IsOnce xs → slice_get xs place ≡ Some n → next ≡ slice_get xs (place + 1) → left_at xs next < left_from n xs
left_shrinks n place xs None once at is = let here = left_from-at n place xs once at in let within : place < length xs = within xs place n at in omega arith
  where
    within : (xs : List ℕ) (place n : ℕ) → slice_get xs place ≡ Some n → place < length xs
    within [] place n h = absurd cc
    within (x ∷ xs) zero n h = omega arith
    within (x ∷ xs) (suc place) n h = let below : place < length xs = within xs place n h in omega arith
left_shrinks n place xs (Some m) once at is =
    let here : left_from n xs + place ≡ length xs = left_from-at n place xs once at in
    let there : left_from m xs + (place + 1) ≡ length xs = left_from-at m (place + 1) xs once (sym is) in
    omega arith

-- at the end of the list all its places are passed
pub passed : (xs : List ℕ) (end place n : ℕ) → None ≡ slice_get xs end → slice_get xs place ≡ Some n → place < end
passed [] end place n ends at = absurd cc
passed (x ∷ xs) zero place n ends at = absurd cc
passed (x ∷ xs) (suc end) zero n ends at = omega arith
passed (x ∷ xs) (suc end) (suc place) n ends at = let below : place < end = passed xs end place n ends at in omega arith
