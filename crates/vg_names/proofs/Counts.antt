-- How many elements pass a test, after one of them is replaced.
use Rattle.std.proofs.Common.{◌≡◌, ℕ, zero, suc, ◌+◌, ◌<◌, ◌≤◌, ◌⊎◌, inl, inr, Bool, true, false, cond, List, ◌++◌, length, get_or, take, drop, set, ap, ◌∙◌, append-nil, take_all, arith}
use Rattle.std.specs.List.{count_by}
use Rattle.std.proofs.lemmas.List.{drop_all}
use Rattle.std.proofs.lemmas.List.Sums.{sum_by-set}

pub count_less : {X : Type 0} (p : X → Bool) (xs : List X) (i : ℕ) (y d : X) → i < length xs → p (get_or xs i d) ≡ true → p y ≡ false → count_by p (set xs i y) + 1 ≡ count_by p xs
count_less p xs i y d h a b =
    let e : count_by p (set xs i y) + cond (p (get_or xs i d)) 1 0 ≡ count_by p xs + cond (p y) 1 0 = sum_by-set (λ x. cond (p x) 1 0) xs i y d h in
    let f = rw (a, b) at e in
    omega (arith, f)

pub count_no_more : {X : Type 0} (p : X → Bool) (xs : List X) (i : ℕ) (y d : X) → i < length xs → p y ≡ false → count_by p (set xs i y) ≤ count_by p xs
count_no_more p xs i y d h b =
    let e : count_by p (set xs i y) + cond (p (get_or xs i d)) 1 0 ≡ count_by p xs + cond (p y) 1 0 = sum_by-set (λ x. cond (p x) 1 0) xs i y d h in
    let f = rw b at e in
    omega (arith, f)

pub below_or : (a b : ℕ) → (a < b) ⊎ (b ≤ a)
below_or zero zero = inr (omega arith)
below_or zero (suc b) = inl (omega arith)
below_or (suc a) zero = inr (omega arith)
below_or (suc a) (suc b) = elim (below_or a b) [ inl h ↦ inl (omega arith) | inr h ↦ inr (omega arith) ]

-- what stands in a `Vec` after its slice was written
pub written_back : {X : Type 0} (new old : List X) (n : ℕ) → length new ≡ length old → n ≡ length old → take n (new ++ drop (length new) old) ≡ new
written_back new old n same room =
    ap (λ l. take n (new ++ l)) (drop_all (length new) old (omega arith)) ∙ ap (take n) (append-nil new) ∙ take_all n new (omega arith)
