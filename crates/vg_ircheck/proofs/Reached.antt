-- The test for paths tells exactly where there is one.
use Rattle.std.proofs.Common.{◌≡◌, ◌⊎◌, inl, inr, ℕ, zero, suc, ◌<◌, Bool, true, false, true≢false, ◌&&◌, nat_eq, List, [], ◌∷◌, ◌++◌, length, Option, Some, None, refl, sym, ap, subst, ◌∙◌, arith}
use Rattle.std.proofs.lemmas.Bool.Decides.{nat_tests}
use Rattle.std.specs.Prelude.{slice_get}
use Rattle.std.proofs.lemmas.Option.{slice_get_within}
use Rattle.std.specs.Option.{option_map_or}
use Rattle.vg_ir.specs.declared.block.Block.{Block}
use Rattle.vg_ir.specs.declared.function.Function.{Function}
use Rattle.vg_ir.specs.Sound.{IsIn}
use Rattle.vg_ircheck.specs.Steps.{leads}
use Rattle.vg_ircheck.specs.Flow.{IsReachedThrough, entry, along, has_edge, has_edge_from, numbers_below, is_reached_through}
use Rattle.vg_ircheck.proofs.Leads.{either, both, or_right, and_both, one_step, goes_on}

is_zero : (b : ℕ) → nat_eq b 0 ≡ true → b ≡ 0
is_zero b h = grind (arith, nat_tests)

-- what stands at a place of a list is within it
within : (has : Block → Bool) (xs : List Block) (i : ℕ) → option_map_or has (slice_get xs i) false ≡ true → i < length xs
within has xs i h = by_cases (slice_get xs i) refl
  where
    by_cases : (o : Option Block) → slice_get xs i ≡ o → i < length xs
    by_cases None e = absurd (true≢false (sym h ∙ ap (λ o. option_map_or has o false) e))
    by_cases (Some x) e = slice_get_within xs i x e

in_front : (x : ℕ) (xs ys : List ℕ) → IsIn x xs → IsIn x (xs ++ ys)
in_front x [] ys h = absurd h
in_front x (y ∷ xs) ys (inl h) = inl h
in_front x (y ∷ xs) ys (inr h) = inr (in_front x xs ys h)

at_end : (x : ℕ) (xs : List ℕ) → IsIn x (xs ++ x ∷ [])
at_end x [] = inl refl
at_end x (y ∷ xs) = inr (at_end x xs)

below_or_last : (x n : ℕ) → x < suc n → (x < n) ⊎ (n ≡ x)
below_or_last x n h = grind arith

nothing_below : (x : ℕ) → x < 0 → ⊥
nothing_below x h = grind arith

-- each number below another is among those below it
pub is_below : (n x : ℕ) → x < n → IsIn x (numbers_below n)
is_below zero x h = absurd (nothing_below x h)
is_below (suc n) x h = by_cases (is_below n x) (below_or_last x n h)
  where
    by_cases : (x < n → IsIn x (numbers_below n)) → (x < n) ⊎ (n ≡ x) → IsIn x (numbers_below (suc n))
    by_cases before (inl less) = in_front x (numbers_below n) (n ∷ []) (before less)
    by_cases before (inr same) = subst (λ y. IsIn y (numbers_below (suc n))) same (at_end n (numbers_below n))

module _ (f : Function) (among : ℕ → Bool) where
  abbrev edge : ℕ → ℕ → Bool
  edge a b = has_edge_from f among a b

  -- what leads goes along edges
  steps_along : (cs : List ℕ) (a b : ℕ) → IsReachedThrough f among a → leads edge cs a b ≡ true → IsReachedThrough f among b
  steps_along [] a b r h =
      let parts : (among a ≡ true) × (has_edge f a b ≡ true) = both (among a) (has_edge f a b) h in
      along a b r parts.0 parts.1
  steps_along (c ∷ cs) a b r h = by_cases (steps_along cs) (either (leads edge cs a b) (leads edge cs a c && leads edge cs c b) h)
    where
      by_cases : ((x y : ℕ) → IsReachedThrough f among x → leads edge cs x y ≡ true → IsReachedThrough f among y)
          → (leads edge cs a b ≡ true) ⊎ ((leads edge cs a c && leads edge cs c b) ≡ true) → IsReachedThrough f among b
      by_cases on (inl p) = on a b r p
      by_cases on (inr p) =
          let parts : (leads edge cs a c ≡ true) × (leads edge cs c b ≡ true) = both (leads edge cs a c) (leads edge cs c b) p in
          on c b (on a c r parts.0) parts.1

  -- where the test tells a path there is one
  pub told_is_reached : (b : ℕ) → is_reached_through f among b ≡ true → IsReachedThrough f among b
  told_is_reached b h = by_cases (either (nat_eq b 0) (leads edge (numbers_below (length f.blocks)) 0 b) h)
    where
      by_cases : (nat_eq b 0 ≡ true) ⊎ (leads edge (numbers_below (length f.blocks)) 0 b ≡ true) → IsReachedThrough f among b
      by_cases (inl e) = subst (IsReachedThrough f among) (sym (is_zero b e)) entry
      by_cases (inr p) = steps_along (numbers_below (length f.blocks)) 0 b entry p

  one_more : (a b : ℕ) → is_reached_through f among a ≡ true → among a ≡ true → has_edge f a b ≡ true → is_reached_through f among b ≡ true
  one_more a b r h e = or_right (nat_eq b 0) (leads edge all 0 b) (by_cases (either (nat_eq a 0) (leads edge all 0 a) r))
    where
      all : List ℕ
      all = numbers_below (length f.blocks)

      by_cases : (nat_eq a 0 ≡ true) ⊎ (leads edge all 0 a ≡ true) → leads edge all 0 b ≡ true
      by_cases (inl z) = one_step edge all 0 b (ap (λ x. edge x b) (sym (is_zero a z)) ∙ and_both (among a) (has_edge f a b) h e)
      by_cases (inr p) = goes_on edge all a (is_below (length f.blocks) a (within _ f.blocks a e)) 0 b p (one_step edge all a b (and_both (among a) (has_edge f a b) h e))

  -- and where there is one the test tells it
  pub reached_is_told : (b : ℕ) → IsReachedThrough f among b → is_reached_through f among b ≡ true
  reached_is_told b entry = refl
  reached_is_told b (along a _ r h e) = one_more a b (reached_is_told a r) h e
