-- With more room for brackets a reader of initialisers refuses what it refused, at the same place.
use Rattle.std.proofs.Common.{◌≡◌, ◌⊎◌, ℕ, zero, suc, ◌+◌, ◌-◌, ◌≤◌, Bool, true, false, cond, Option, List, [], ◌∷◌, ◌++◌, codes, refl, sym, ap, subst, ◌∙◌, arith, inl, inr}
use Rattle.vg_ir.specs.declared.initializer.Initializer.{Initializer}
use Rattle.vg_ir.specs.Shape.{integer_width}
use Rattle.vg_irparse.specs.declared.role.Wanted.{Wanted}
use Rattle.vg_irparse.specs.Placed.{Placed}
use Rattle.vg_irparse.specs.Answer.{Answer, reads, leaves, too_deep}
use Rattle.vg_irparse.specs.Answer as answer
use Rattle.vg_irread.specs.Kinds.{Kind, words, is_in}
use Rattle.vg_irread.specs.Reading.{Reader, many_from, either_at}
use Rattle.vg_irread.proofs.Single.{deep_leaves_not}
use Rattle.vg_irglobal.specs.ReadingInitial.{simple_at, no_room, part_at, next_part_at, parts_at, elements_at, fields_at, initial_within}

-- the same answer, where the first has room
abbrev pub Below : {A : Type 0} → Answer A → Answer A → Type 0
Below a b = (a ≡ too_deep) ⊎ (a ≡ b)

abbrev pub AllBelow : {X : Type 0} → Reader X → Reader X → Type 0
AllBelow r q = (d : ℕ) (ts : List Placed) → Below (r d ts) (q d ts)

below_same : {A B : Type 0} (a : Answer A) (f g : A → Answer B) → ((x : A) → Below (f x) (g x)) → Below (answer.◌>>=◌ a f) (answer.◌>>=◌ a g)
below_same (reads x) f g k = k x
below_same (leaves n w) f g k = inr refl
below_same too_deep f g k = inl refl

below_bind : {A B : Type 0} (a b : Answer A) (f g : A → Answer B) → Below a b → ((x : A) → Below (f x) (g x)) → Below (answer.◌>>=◌ a f) (answer.◌>>=◌ b g)
below_bind a b f g (inl h) k = inl (rw h refl)
below_bind a b f g (inr h) k = subst (λ z. Below (answer.◌>>=◌ a f) (answer.◌>>=◌ z g)) h (below_same a f g k)

below_from : {X : Type 0} (kinds : List Kind) (r q : Reader X) → AllBelow r q → (fuel : ℕ) (xs : List X) → AllBelow (many_from fuel kinds r xs) (many_from fuel kinds q xs)
below_from kinds r q h zero xs d ts = inr refl
below_from kinds r q h (suc fuel) xs d [] = inr refl
below_from {X} kinds r q h (suc fuel) xs d (t ∷ ts) = by_test (is_in kinds t.text) (λ ys us. below_from kinds r q h fuel ys d us)
  where
    by_test : (b : Bool) → ((ys : List X) (us : List Placed) → Below (many_from fuel kinds r ys d us) (many_from fuel kinds q ys d us))
        → Below (cond b (answer.◌>>=◌ (r d (t ∷ ts)) (λ x. many_from fuel kinds r (xs ++ x.0 ∷ []) d x.1)) (reads (xs, t ∷ ts)))
        (cond b (answer.◌>>=◌ (q d (t ∷ ts)) (λ x. many_from fuel kinds q (xs ++ x.0 ∷ []) d x.1)) (reads (xs, t ∷ ts)))
    by_test true go = below_bind (r d (t ∷ ts)) (q d (t ∷ ts)) _ _ (h d (t ∷ ts)) (λ x. go (xs ++ x.0 ∷ []) x.1)
    by_test false go = inr refl

below_either : {X : Type 0} (kinds : List Kind) (f g r q : Reader X) → AllBelow f g → AllBelow r q → AllBelow (either_at kinds f r) (either_at kinds g q)
below_either kinds f g r q h k d [] = k d []
below_either kinds f g r q h k d (t ∷ ts) = by_test (is_in kinds t.text)
  where
    by_test : (b : Bool) → Below (cond b (f d (t ∷ ts)) (r d (t ∷ ts))) (cond b (g d (t ∷ ts)) (q d (t ∷ ts)))
    by_test true = h d (t ∷ ts)
    by_test false = k d (t ∷ ts)

module _ {r q : Option ℕ → Reader Initializer} (h : (v : Option ℕ) → AllBelow (r v) (q v)) where
  below_part : AllBelow (part_at r) (part_at q)
  unfolding part_at
  below_part d ts = below_bind _ _ _ _ (inr refl) (λ x. below_bind _ _ _ _ (h (integer_width x.0.ty) d x.1) (λ y. inr refl))

  below_next : AllBelow (next_part_at r) (next_part_at q)
  unfolding next_part_at
  below_next d ts = below_bind _ _ _ _ (inr refl) (λ x. below_part d x.1)

  below_parts : AllBelow (parts_at r) (parts_at q)
  unfolding parts_at
  below_parts d ts = below_bind _ _ _ _ (below_part d ts) (λ x. below_bind _ _ _ _ (below_from _ (next_part_at r) (next_part_at q) below_next _ [] d x.1) (λ y. inr refl))

  below_elements : AllBelow (elements_at r) (elements_at q)
  unfolding elements_at
  below_elements d ts = below_bind _ _ _ _ (inr refl) (λ x. below_bind _ _ _ _ (below_parts d x.1) (λ y. inr refl))

  below_fields : AllBelow (fields_at r) (fields_at q)
  unfolding fields_at
  below_fields d ts = below_bind _ _ _ _ (inr refl) (λ x. below_bind _ _ _ _ (below_parts d x.1) (λ y. inr refl))

abbrev square : List Kind
square = words (codes "[" ∷ []) ∷ []

abbrev curly : List Kind
curly = words (codes "{" ∷ []) ∷ []

one_more : (n : ℕ) (v : Option ℕ) → AllBelow (initial_within n v) (initial_within (suc n) v)
unfolding initial_within
one_more zero v =
    below_either square no_room (elements_at (initial_within zero)) (either_at curly no_room (simple_at v)) (either_at curly (fields_at (initial_within zero)) (simple_at v)) (λ d ts. inl refl)
    (below_either curly no_room (fields_at (initial_within zero)) (simple_at v) (simple_at v) (λ d ts. inl refl) (λ d ts. inr refl))
one_more (suc n) v =
    below_either square (elements_at (initial_within n)) (elements_at (initial_within (suc n))) (either_at curly (fields_at (initial_within n)) (simple_at v))
    (either_at curly (fields_at (initial_within (suc n))) (simple_at v)) (below_elements (one_more n))
    (below_either curly (fields_at (initial_within n)) (fields_at (initial_within (suc n))) (simple_at v) (simple_at v) (below_fields (one_more n)) (λ d ts. inr refl))

leaves_on : {A : Type 0} (a b : Answer A) (n : ℕ) (w : Wanted) → Below a b → a ≡ leaves n w → b ≡ leaves n w
leaves_on a b n w (inl h) k = let e = sym h ∙ k in deep_leaves_not e
leaves_on a b n w (inr h) k = sym h ∙ k

by_steps : (k n m : ℕ) → m ≡ n + k → (v : Option ℕ) (d : ℕ) (ts : List Placed) (c : ℕ) (w : Wanted) → initial_within n v d ts ≡ leaves c w → initial_within m v d ts ≡ leaves c w
by_steps zero n m e v d ts c w h = let f : n ≡ m = omega (arith, e) in subst (λ z. initial_within z v d ts ≡ leaves c w) f h
by_steps (suc k) n m e v d ts c w h =
    let f : suc (n + k) ≡ m = omega (arith, e) in
    subst (λ z. initial_within z v d ts ≡ leaves c w) f
    (leaves_on (initial_within (n + k) v d ts) (initial_within (suc (n + k)) v d ts) c w (one_more (n + k) v d ts) (by_steps k n (n + k) refl v d ts c w h))

-- what is refused is refused with more room
pub refused_on : (n m : ℕ) → n ≤ m → (v : Option ℕ) (d : ℕ) (ts : List Placed) (c : ℕ) (w : Wanted) → initial_within n v d ts ≡ leaves c w → initial_within m v d ts ≡ leaves c w
refused_on n m l v d ts c w h = by_steps (m - n) n m (omega (arith, l)) v d ts c w h
