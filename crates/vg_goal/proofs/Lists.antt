-- Lists by what stands at each place, and how many there can be that differ.
use Rattle.std.proofs.Common.{◌≡◌, ◌≢◌, ℕ, zero, suc, ◌+◌, ◌<◌, ◌≤◌, ◌⊎◌, inl, inr, Bool, true, false, cond, filter, List, [], ◌∷◌, ◌++◌, length, map, set, get_or, Some, sym, refl, ap, ◌∙◌, subst, arith, Contains, zero-add}
use Rattle.std.specs.Prelude.{slice_get, count_by}
use Rattle.std.specs.List.{remove}
use Rattle.std.proofs.lemmas.Option.{none-some, slice_get_within, get_or_from_slice_get}
use Rattle.std.proofs.lemmas.List.Sums.{sum_by-cons, get_or-le-sum_by}

module _ {X : Type 0} where
  -- the element stands somewhere in the list
  abbrev pub Has : List X → X → Type 0
  Has xs x = (k : ℕ) × (slice_get xs k ≡ Some x)

  -- no element stands at two places
  abbrev pub Differ : List X → Type 0
  Differ [] = Unit {0}
  Differ (x ∷ xs) = (Has xs x → ⊥) × Differ xs

  pub some_same : (a b : X) → Some a ≡ Some b → a ≡ b
  some_same a b h = cc

  -- what stands in a list after a write stood there before at another place, or was written
  pub at_set : (xs : List X) (i k : ℕ) (y z : X) → slice_get (set xs i y) k ≡ Some z → ((k ≡ i) × (z ≡ y)) ⊎ ((k ≢ i) × (slice_get xs k ≡ Some z))
  at_set [] i k y z h = absurd (none-some z (search h))
  at_set (x ∷ xs) zero zero y z h = inl (refl, sym (some_same y z h))
  at_set (x ∷ xs) zero (suc k) y z h = inr (λ e. omega arith, h)
  at_set (x ∷ xs) (suc i) zero y z h = inr (λ e. omega arith, h)
  at_set (x ∷ xs) (suc i) (suc k) y z h = elim (at_set xs i k y z h) [
    | inl e ↦ inl (ap suc e.0, e.1)
    | inr e ↦ inr (λ same. e.0 (let l : suc k ≡ suc i = same in omega arith), e.1)
  ]

  -- and each other one still stands where it did
  pub at_set_other : (xs : List X) (i k : ℕ) (y z : X) → k ≢ i → slice_get xs k ≡ Some z → slice_get (set xs i y) k ≡ Some z
  at_set_other [] i k y z ne h = absurd (none-some z h)
  at_set_other (x ∷ xs) zero zero y z ne h = absurd (ne refl)
  at_set_other (x ∷ xs) zero (suc k) y z ne h = h
  at_set_other (x ∷ xs) (suc i) zero y z ne h = h
  at_set_other (x ∷ xs) (suc i) (suc k) y z ne h = at_set_other xs i k y z (λ e. ne (ap suc e)) h

  pub at_set_same : (xs : List X) (i : ℕ) (x y : X) → slice_get xs i ≡ Some x → slice_get (set xs i y) i ≡ Some y
  at_set_same [] i x y h = absurd (none-some x h)
  at_set_same (z ∷ xs) zero x y h = refl
  at_set_same (z ∷ xs) (suc i) x y h = at_set_same xs i x y h

  Has-remove : (xs : List X) (k j : ℕ) (x y : X) → slice_get xs k ≡ Some x → slice_get xs j ≡ Some y → y ≢ x → Has (remove xs k) y
  Has-remove [] k j x y hx hy ne = absurd (none-some x hx)
  Has-remove (z ∷ xs) zero zero x y hx hy ne = absurd (ne (sym (some_same z y hy) ∙ some_same z x hx))
  Has-remove (z ∷ xs) zero (suc j) x y hx hy ne = (j, hy)
  Has-remove (z ∷ xs) (suc k) zero x y hx hy ne = (0, hy)
  Has-remove (z ∷ xs) (suc k) (suc j) x y hx hy ne =
      let rest = Has-remove xs k j x y hx hy ne in
      (suc rest.0, rest.1)

  length-remove : (xs : List X) (k : ℕ) (x : X) → slice_get xs k ≡ Some x → length (remove xs k) + 1 ≡ length xs
  length-remove [] k x h = absurd (none-some x h)
  length-remove (z ∷ xs) zero x h = omega arith
  length-remove (z ∷ xs) (suc k) x h = let rest = length-remove xs k x h in omega arith

  -- a list of elements that differ is no longer than a list that has them all
  pub length-le_from_Differ : (xs ys : List X) → Differ xs → ((x : X) → Has xs x → Has ys x) → length xs ≤ length ys
  length-le_from_Differ [] ys differ within = omega arith
  length-le_from_Differ (x ∷ xs) ys differ within =
      let here = within x (0, refl) in
      let rest = length-le_from_Differ xs (remove ys here.0) differ.1 (λ y has.
      let there = within y (suc has.0, has.1) in
      Has-remove ys here.0 there.0 x y here.1 there.1 (λ same. differ.0 (subst (Has xs) same has))
      ) in
      let shorter = length-remove ys here.0 x here.1 in
      omega arith

  -- what a filter keeps stands in the list and passes
  pub Has-from_filter : (p : X → Bool) (xs : List X) (x : X) → Has (filter p xs) x → Has xs x × (p x ≡ true)
  Has-from_filter p [] x has = absurd (none-some x has.1)
  Has-from_filter p (y ∷ ys) x has = by (p y) refl (Has-from_filter p ys x)
    where
      later : (Has (filter p ys) x → Has ys x × (p x ≡ true)) → Has (filter p ys) x → Has (y ∷ ys) x × (p x ≡ true)
      later rest has = let found = rest has in ((suc found.0.0, found.0.1), found.1)

      kept : p y ≡ true → (Has (filter p ys) x → Has ys x × (p x ≡ true)) → Has (y ∷ filter p ys) x → Has (y ∷ ys) x × (p x ≡ true)
      kept test rest (zero, is) = ((0, is), subst (λ z. p z ≡ true) (some_same y x is) test)
      kept test rest (suc k, is) = later rest (k, is)

      by : (b : Bool) → p y ≡ b → (Has (filter p ys) x → Has ys x × (p x ≡ true)) → Has (y ∷ ys) x × (p x ≡ true)
      by true test rest = kept test rest (subst (λ (b : Bool). Has (cond b (y ∷ filter p ys) (filter p ys)) x) test has)
      by false test rest = later rest (subst (λ (b : Bool). Has (cond b (y ∷ filter p ys) (filter p ys)) x) test has)

  pub Has-filter : (p : X → Bool) (xs : List X) (x : X) → Has xs x → p x ≡ true → Has (filter p xs) x
  Has-filter p [] x has test = absurd (none-some x has.1)
  Has-filter p (y ∷ ys) x (zero, is) test =
      let here : p y ≡ true = subst (λ z. p z ≡ true) (sym (some_same y x is)) test in
      subst (λ (b : Bool). Has (cond b (y ∷ filter p ys) (filter p ys)) x) (sym here) (0, is)
  Has-filter p (y ∷ ys) x (suc k, is) test = by (p y) refl (Has-filter p ys x (k, is) test)
    where
      by : (b : Bool) → p y ≡ b → Has (filter p ys) x → Has (cond (p y) (y ∷ filter p ys) (filter p ys)) x
      by true e rest = subst (λ (b : Bool). Has (cond b (y ∷ filter p ys) (filter p ys)) x) (sym e) (suc rest.0, rest.1)
      by false e rest = subst (λ (b : Bool). Has (cond b (y ∷ filter p ys) (filter p ys)) x) (sym e) rest

  -- what stands in a list after a push stood there before, or was pushed
  pub Has-from_push : (xs : List X) (y x : X) → Has (xs ++ y ∷ []) x → Has xs x ⊎ (x ≡ y)
  Has-from_push [] y x (zero, is) = inr (sym (some_same y x is))
  Has-from_push [] y x (suc k, is) = absurd (none-some x is)
  Has-from_push (z ∷ zs) y x (zero, is) = inl (0, is)
  Has-from_push (z ∷ zs) y x (suc k, is) = elim (Has-from_push zs y x (k, is)) [ inl has ↦ inl (suc has.0, has.1) | inr same ↦ inr same ]

  pub at_push : (xs : List X) (y : X) (k : ℕ) (x : X) → slice_get (xs ++ y ∷ []) k ≡ Some x → (slice_get xs k ≡ Some x) ⊎ (x ≡ y)
  at_push [] y zero x is = inr (sym (some_same y x is))
  at_push [] y (suc k) x is = absurd (none-some x is)
  at_push (z ∷ zs) y zero x is = inl is
  at_push (z ∷ zs) y (suc k) x is = at_push zs y k x is

  pub at_push_before : (xs : List X) (y : X) (k : ℕ) (x : X) → slice_get xs k ≡ Some x → slice_get (xs ++ y ∷ []) k ≡ Some x
  at_push_before [] y k x is = absurd (none-some x is)
  at_push_before (z ∷ zs) y zero x is = is
  at_push_before (z ∷ zs) y (suc k) x is = at_push_before zs y k x is

  pub at_push_end : (xs : List X) (y : X) → slice_get (xs ++ y ∷ []) (length xs) ≡ Some y
  at_push_end [] y = refl
  at_push_end (z ∷ zs) y = at_push_end zs y

  -- where some are counted, one passes
  pub Has-from_count : (p : X → Bool) (xs : List X) → 0 < count_by p xs → (x : X) × Has xs x × (p x ≡ true)
  Has-from_count p [] counted = absurd (omega arith)
  Has-from_count p (y ∷ ys) counted = by (p y) refl (Has-from_count p ys)
    where
      by : (b : Bool) → p y ≡ b → (0 < count_by p ys → (x : X) × Has ys x × (p x ≡ true)) → (x : X) × Has (y ∷ ys) x × (p x ≡ true)
      by true test rest = (y, (0, refl), test)
      by false test rest =
          let step = sum_by-cons (λ (x : X). cond (p x) 1 0) y ys in
          let none : cond (p y) 1 0 ≡ 0 = ap (λ (b : Bool). cond b 1 0) test in
          let found = rest (subst (λ (n : ℕ). 0 < n) (step ∙ ap (λ (n : ℕ). n + count_by p ys) none ∙ zero-add (count_by p ys)) counted) in
          (found.0, (suc found.1.0, found.1.1), found.2)

  -- what passes is counted
  pub Has-count : (p : X → Bool) (xs : List X) (k : ℕ) (x : X) → slice_get xs k ≡ Some x → p x ≡ true → 0 < count_by p xs
  Has-count p xs k x at test =
      let least = get_or-le-sum_by (λ (y : X). cond {A = ℕ} (p y) 1 0) xs k x (slice_get_within xs k x at) in
      let one : cond {A = ℕ} (p (get_or xs k x)) 1 0 ≡ 1 = ap (λ (y : X). cond {A = ℕ} (p y) 1 0) (get_or_from_slice_get xs k x x at) ∙ ap (λ (b : Bool). cond {A = ℕ} b 1 0) test in
      omega arith

  -- `Has` and std's word say the same
  pub Contains-from_Has : (xs : List X) (x : X) → Has xs x → Contains xs x
  Contains-from_Has [] x has = absurd (none-some x has.1)
  Contains-from_Has (y ∷ ys) x (zero, is) = (0, omega arith, some_same y x is)
  Contains-from_Has (y ∷ ys) x (suc k, is) =
      let rest = Contains-from_Has ys x (k, is) in
      (suc rest.0, omega arith, rest.2)

  pub Has-from_Contains : (xs : List X) (x : X) → Contains xs x → Has xs x
  Has-from_Contains [] x (k, below, is) = absurd (omega arith)
  Has-from_Contains (y ∷ ys) x (zero, below, is) = (0, ap Some is)
  Has-from_Contains (y ∷ ys) x (suc k, below, is) =
      let rest = Has-from_Contains ys x (k, omega arith, is) in
      (suc rest.0, rest.1)

-- the image of what stands in a list
pub at_map : {X Y : Type 0} (f : X → Y) (xs : List X) (k : ℕ) (x : X) → slice_get xs k ≡ Some x → slice_get (map f xs) k ≡ Some (f x)
at_map f [] k x h = absurd (none-some x h)
at_map f (y ∷ ys) zero x h = let same : y ≡ x = cc in ap (λ z. Some (f z)) same
at_map f (y ∷ ys) (suc k) x h = at_map f ys k x h

pub at_from_map : {X Y : Type 0} (f : X → Y) (xs : List X) (k : ℕ) (y : Y) → slice_get (map f xs) k ≡ Some y → (x : X) × (slice_get xs k ≡ Some x) × (f x ≡ y)
at_from_map f [] k y h = absurd (none-some y h)
at_from_map f (x ∷ xs) zero y h = (x, refl, let same : f x ≡ y = cc in same)
at_from_map f (x ∷ xs) (suc k) y h = at_from_map f xs k y h
