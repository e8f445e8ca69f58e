-- Elements of lists, and tests on all of them.
use Rattle.std.proofs.Common.{◌≡◌, Bool, true, false, List, [], ◌∷◌, ◌++◌, Some, None, ◌⊎◌, inl, inr, refl, sym, ap, subst, ◌∙◌}
use Rattle.std.specs.Prelude.{find, flat_map, cond, unwrap_or}
use Rattle.std.specs.List.{list_all}
use Rattle.std.proofs.lemmas.Bool.{and_parts}
use Rattle.vg_ir.specs.Sound.{IsIn}

-- a test that all pass
pub all-in : {A : Type 0} (test : A → Bool) (xs : List A) (x : A) → list_all test xs ≡ true → IsIn x xs → test x ≡ true
all-in test [] x h k = absurd k
all-in test (y ∷ ys) x h (inl e) = ap test e ∙ (and_parts (test y) (list_all test ys) h).0
all-in test (y ∷ ys) x h (inr k) = all-in test ys x (and_parts (test y) (list_all test ys) h).1 k

-- an element of the first part
pub in-append_left : {A : Type 0} (x : A) (xs ys : List A) → IsIn x xs → IsIn x (xs ++ ys)
in-append_left x [] ys h = absurd h
in-append_left x (z ∷ xs) ys (inl e) = inl e
in-append_left x (z ∷ xs) ys (inr h) = inr (in-append_left x xs ys h)

-- an element of the second part
pub in-append_right : {A : Type 0} (x : A) (xs ys : List A) → IsIn x ys → IsIn x (xs ++ ys)
in-append_right x [] ys h = h
in-append_right x (z ∷ xs) ys h = inr (in-append_right x xs ys h)

-- an element of one of two parts
pub in-append_cases : {A : Type 0} (x : A) (xs ys : List A) → IsIn x (xs ++ ys) → IsIn x xs ⊎ IsIn x ys
in-append_cases x [] ys h = inr h
in-append_cases x (z ∷ xs) ys (inl e) = inl (inl e)
in-append_cases x (z ∷ xs) ys (inr h) = more (in-append_cases x xs ys h)
  where
    more : IsIn x xs ⊎ IsIn x ys → IsIn x (z ∷ xs) ⊎ IsIn x ys
    more (inl k) = inl (inr k)
    more (inr k) = inr k

-- an element of the list of an element
pub in-flat_map : {A B : Type 0} (f : A → List B) (xs : List A) (x : A) (y : B) → IsIn x xs → IsIn y (f x) → IsIn y (flat_map f xs)
in-flat_map f [] x y h k = absurd h
in-flat_map f (z ∷ xs) x y (inl e) k = in-append_left y (f z) (flat_map f xs) (subst (λ w. IsIn y (f w)) e k)
in-flat_map f (z ∷ xs) x y (inr h) k = in-append_right y (f z) (flat_map f xs) (in-flat_map f xs x y h k)

-- and back
pub flat_map-in : {A B : Type 0} (f : A → List B) (xs : List A) (y : B) → IsIn y (flat_map f xs) → (x : A) × IsIn x xs × IsIn y (f x)
flat_map-in f [] y h = absurd h
flat_map-in f (z ∷ xs) y h = more (in-append_cases y (f z) (flat_map f xs) h) (λ k. flat_map-in f xs y k)
  where
    behind : (x : _) × IsIn x xs × IsIn y (f x) → (x : _) × IsIn x (z ∷ xs) × IsIn y (f x)
    behind (x, i, k) = (x, inr i, k)

    more : IsIn y (f z) ⊎ IsIn y (flat_map f xs) → (IsIn y (flat_map f xs) → (x : _) × IsIn x xs × IsIn y (f x)) → (x : _) × IsIn x (z ∷ xs) × IsIn y (f x)
    more (inl k) rest = (z, inl refl, k)
    more (inr k) rest = behind (rest k)

-- what two answers hold
pub some_same : {A : Type 0} (a b : A) → Some a ≡ Some b → a ≡ b
some_same a b e = ap (λ o. unwrap_or o a) e

-- nothing is no answer
pub none_some : {A : Type 0} (a : A) → None ≡ Some a → ⊥
none_some a e = absurd (cc)

-- what is found is there, and passes
pub found : {A : Type 0} (test : A → Bool) (xs : List A) (x : A) → find test xs ≡ Some x → IsIn x xs × (test x ≡ true)
found test [] x h = absurd (none_some x h)
found test (y ∷ ys) x h = by_test (test y) refl h (λ k. found test ys x k)
  where
    here : test y ≡ true → x ≡ y → IsIn x (y ∷ ys) × (test x ≡ true)
    here e k = (inl k, ap test k ∙ e)

    behind : IsIn x ys × (test x ≡ true) → IsIn x (y ∷ ys) × (test x ≡ true)
    behind (i, t) = (inr i, t)

    by_test : (b : Bool) → test y ≡ b → cond b (Some y) (find test ys) ≡ Some x → (find test ys ≡ Some x → IsIn x ys × (test x ≡ true)) → IsIn x (y ∷ ys) × (test x ≡ true)
    by_test true e k rest = here e (sym (some_same y x k))
    by_test false e k rest = behind (rest k)
