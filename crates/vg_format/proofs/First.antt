-- The first item of a list that passes a test.
use Rattle.std.proofs.Common.{◌≡◌, ℕ, zero, suc, ◌+◌, Bool, true, false, not, cond, List, [], ◌∷◌, length, nat_lt, slice_get, Some, None, refl, arith, subst}
use Rattle.std.specs.List.{position_or_len}
use Rattle.std.specs.Option.{option_map_or}
use Rattle.std.proofs.lemmas.Bool.Decides.{nat_tests}
use Rattle.vg_isa.specs.declared.isa.Parts.{Parts}
use Rattle.vg_format.specs.Matching.{matches, matches_at, decoded, Decodes, MatchesOne}

shorter : (n m : ℕ) → nat_lt (suc n) (suc m) ≡ true → nat_lt n m ≡ true
shorter n m h = grind (arith, nat_tests)

shorter_not : (n m : ℕ) → nat_lt (suc n) (suc m) ≡ false → nat_lt n m ≡ false
shorter_not n m h = grind (arith, nat_tests)

not_empty : (m : ℕ) → nat_lt 0 (suc m) ≡ false → ⊥
not_empty m h = grind (arith, nat_tests)

module _ {X : Type 0} (p : X → Bool) where
  -- the item at a place passes
  abbrev passes_at : List X → ℕ → Bool
  passes_at xs k = option_map_or p (slice_get xs k) false

  -- a place passes where it is one of the list, and else none does
  abbrev Found : List X → ℕ → Type 0
  Found xs n = (nat_lt n (length xs) ≡ true → passes_at xs n ≡ true) × (nat_lt n (length xs) ≡ false → (k : ℕ) → passes_at xs k ≡ false)

  none_more : (x : X) (xs : List X) → p x ≡ false → ((k : ℕ) → passes_at xs k ≡ false) → (k : ℕ) → passes_at (x ∷ xs) k ≡ false
  none_more x xs e none zero = e
  none_more x xs e none (suc k) = none k

  found_more : (x : X) (xs : List X) (n : ℕ) → p x ≡ false → Found xs n → Found (x ∷ xs) (suc n)
  found_more x xs n e found = (λ h. found.0 (shorter n (length xs) h), λ h. none_more x xs e (found.1 (shorter_not n (length xs) h)))

  found_at : (x : X) (xs : List X) (b : Bool) (n : ℕ) → p x ≡ b → Found xs n → Found (x ∷ xs) (cond (not b) (1 + n) 0)
  found_at x xs true n e found = (λ h. e, λ h. absurd (not_empty (length xs) h))
  found_at x xs false n e found = let next : suc n ≡ 1 + n = omega arith in subst (Found (x ∷ xs)) next (found_more x xs n e found)

  first_found : (xs : List X) → Found xs (position_or_len p xs)
  first_found [] = (λ h. cc, λ h k. refl)
  first_found (x ∷ xs) = found_at x xs (p x) (position_or_len p xs) refl (first_found xs)

chosen : (d : Parts) (word n : ℕ) (b : Bool) → (b ≡ true → matches_at d word n ≡ true) → (b ≡ false → (k : ℕ) → matches_at d word k ≡ false) → MatchesOne d word → Decodes d word (cond b (Some n) None)
chosen d word n true here none one = (here refl, λ k also. one k n also (here refl))
chosen d word n false here none one = none refl

-- where a word matches no two instructions, the first that it matches is what it is
pub first_decodes : (d : Parts) (word : ℕ) → MatchesOne d word → Decodes d word (decoded d word)
first_decodes d word one =
    let found = first_found (matches d word) d.instrs in
    chosen d word (position_or_len (matches d word) d.instrs) (nat_lt (position_or_len (matches d word) d.instrs) (length d.instrs)) found.0 found.1 one
