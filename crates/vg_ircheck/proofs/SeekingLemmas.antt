-- The element of a number in lists that stand one behind the other.
use Rattle.std.proofs.Common.{◌≡◌, ℕ, zero, suc, ◌+◌, ◌-◌, ◌<◌, ◌≤◌, List, [], ◌∷◌, ◌++◌, map, flat_map, length, drop, get_or, add-one, drop-cons, Some, None, refl, sym, ap, ◌∙◌, arith}
use Rattle.std.proofs.Math.ListN.{drop_of_length-le}
use Rattle.std.specs.Prelude.{slice_index_or}
use Rattle.vg_ir.specs.declared.spot.Spot.{Spot}
use Rattle.vg_ircheck.specs.declared.sought.Sought.{Sought}
use Rattle.vg_ircheck.specs.declared.sought.Sought.TheVariants.{Found, Left}
use Rattle.vg_ircheck.specs.Place.{first_place}
use Rattle.vg_ircheck.specs.Counts.{first_beyond}
use Rattle.vg_ircheck.specs.Seeking.{sought}
use Rattle.vg_ircheck.proofs.PlaceLemmas.{first_of_nothing, first_of_one}

nothing_fewer : (n : ℕ) → n < 0 → ⊥
nothing_fewer n h = grind arith

none_left : (n : ℕ) → n ≡ n - 0
none_left n = omega arith

one_less : (n k : ℕ) → n - k ≡ suc n - suc k
one_less n k = omega arith

fewer : (n k : ℕ) → suc n < suc k → n < k
fewer n k h = omega (arith, h)

no_more : (n k : ℕ) → suc k ≤ suc n → k ≤ n
no_more n k h = omega (arith, h)

not_none : (k : ℕ) → suc k ≤ 0 → ⊥
not_none k h = grind arith

-- what is found in a list is found in front of others
pub found_front : (n : ℕ) (xs ys : List Spot) (at : Spot) → sought n xs ≡ Found at → sought n (xs ++ ys) ≡ Found at
found_front n [] ys at h = absurd (cc)
found_front zero (x ∷ xs) ys at h = h
found_front (suc n) (x ∷ xs) ys at h = found_front n xs ys at h

-- what is behind a list is sought in the others
pub left_front : (n : ℕ) (xs ys : List Spot) (k : ℕ) → sought n xs ≡ Left k → sought n (xs ++ ys) ≡ sought k ys
left_front n [] ys k h = same n k h
  where
    same : (n k : ℕ) → Left n ≡ Left k → sought n ys ≡ sought k ys
    same n k e = ap (λ z. sought z ys) (cc)
left_front zero (x ∷ xs) ys k h = absurd (cc)
left_front (suc n) (x ∷ xs) ys k h = left_front n xs ys k h

module _ {X : Type 0} (place : X → Spot) where
  -- an element by its number
  pub found_here : (n : ℕ) (xs : List X) (x d : X) → n < length xs → x ≡ get_or xs n d → sought n (map place xs) ≡ Found (place x)
  found_here n [] x d h e = absurd (nothing_fewer n h)
  found_here zero (y ∷ xs) x d h e = ap (λ z. Found (place z)) (sym e)
  found_here (suc n) (y ∷ xs) x d h e = found_here n xs x d (fewer n (length xs) h) e

  pub left_here : (n : ℕ) (xs : List X) → length xs ≤ n → sought n (map place xs) ≡ Left (n - length xs)
  left_here n [] h = ap Left (none_left n)
  left_here zero (y ∷ xs) h = absurd (not_none (length xs) h)
  left_here (suc n) (y ∷ xs) h = left_here n xs (no_more n (length xs) h) ∙ ap Left (one_less n (length xs))

  pub found_among : (n : ℕ) (xs : List X) (x : X) (ys : List Spot) → n < length xs → x ≡ slice_index_or xs n x → Found (place x) ≡ sought n (map place xs ++ ys)
  found_among n xs x ys h e = sym (found_front n (map place xs) ys (place x) (found_here n xs x x h e))

  pub left_among : (n : ℕ) (xs : List X) (ys : List Spot) → length xs ≤ n → sought n (map place xs ++ ys) ≡ sought (n - length xs) ys
  left_among n xs ys h = left_front n (map place xs) ys (n - length xs) (left_here n xs h)

-- the first that is too many
pub first_found : (n : ℕ) (xs : List Spot) (at : Spot) → Found at ≡ sought n xs → Some at ≡ first_place (first_beyond n xs)
first_found n [] at h = absurd (cc)
first_found zero (x ∷ xs) at h = ap Some (same at x h) ∙ sym (first_of_one x)
  where
    same : (a b : Spot) → Found a ≡ Found b → a ≡ b
    same a b e = cc
first_found (suc n) (x ∷ xs) at h = first_found n xs at h

pub none_found : (n k : ℕ) (xs : List Spot) → Left k ≡ sought n xs → None ≡ first_place (first_beyond n xs)
none_found n k [] h = sym first_of_nothing
none_found zero k (x ∷ xs) h = absurd (cc)
none_found (suc n) k (x ∷ xs) h = none_found n k xs h

-- The element of a number in what several things have, from one of them on.
module _ {X : Type 0} (places : X → List Spot) (xs : List X) (i : ℕ) (x : X) (within : i < length xs) (is : x ≡ get_or xs i x) where
  each_drop : flat_map places (drop i xs) ≡ places x ++ flat_map places (drop (i + 1) xs)
  each_drop =
      ap (flat_map places) (drop-cons xs i x within) ∙ ap (λ n. places (get_or xs i x) ++ flat_map places (drop n xs)) (sym (add-one i))
      ∙ ap (λ y. places y ++ flat_map places (drop (i + 1) xs)) (sym is)

  -- it is found in this one
  pub found_in : (n : ℕ) (whole here : Sought) (at : Spot) → sought n (flat_map places (drop i xs)) ≡ whole → here ≡ sought n (places x) → here ≡ Found at → Found at ≡ whole
  found_in n whole here at before told found =
      sym (ap (sought n) each_drop ∙ found_front n (places x) (flat_map places (drop (i + 1) xs)) at (sym told ∙ found)) ∙ before

  -- it is sought behind this one
  pub left_in : (n k : ℕ) (whole here : Sought) → sought n (flat_map places (drop i xs)) ≡ whole → here ≡ sought n (places x) → here ≡ Left k → sought k (flat_map places (drop (i + 1) xs)) ≡ whole
  left_in n k whole here before told left =
      sym (ap (sought n) each_drop ∙ left_front n (places x) (flat_map places (drop (i + 1) xs)) k (sym told ∙ left)) ∙ before

-- and in none of them
pub left_all : {X : Type 0} (places : X → List Spot) (xs : List X) (i n : ℕ) (whole : Sought) → length xs ≤ i
    → sought n (flat_map places (drop i xs)) ≡ whole → Left n ≡ whole
left_all places xs i n whole h e = sym (ap (λ ys. sought n (flat_map places ys)) (drop_of_length-le xs h)) ∙ e

-- The words of a block: of its phis, of its instructions, and of its end.
module _ {X Y : Type 0} (p : X → Spot) (q : Y → Spot) (n : ℕ) (xs : List X) (ys : List Y) (s : Spot) where
  abbrev pub words : List Spot
  words = (map p xs ++ map q ys) ++ s ∷ []

  pub found_first : (x : X) → n < length xs → x ≡ slice_index_or xs n x → Found (p x) ≡ sought n words
  found_first x h e = sym (found_front n (map p xs ++ map q ys) (s ∷ []) (p x) (sym (found_among p n xs x (map q ys) h e)))

  pub found_second : (y : Y) (at : Spot) → length xs ≤ n → n - length xs < length ys → y ≡ slice_index_or ys (n - length xs) y → at ≡ q y → Found at ≡ sought n words
  found_second y at le h e is =
      sym (found_front n (map p xs ++ map q ys) (s ∷ []) at
      (left_among p n xs (map q ys) le ∙ found_here q (n - length xs) ys y y h e ∙ ap Found (sym is)))

  behind_both : length xs ≤ n → length ys ≤ n - length xs → sought n words ≡ sought (n - length xs - length ys) (s ∷ [])
  behind_both le more =
      left_front n (map p xs ++ map q ys) (s ∷ []) (n - length xs - length ys)
      (left_among p n xs (map q ys) le ∙ left_here q (n - length xs) ys more)

  pub found_third : (at : Spot) → length xs ≤ n → length ys ≤ n - length xs → n - length xs - length ys ≡ 0 → at ≡ s → Found at ≡ sought n words
  found_third at le more zero_left is =
      ap Found is ∙ sym (behind_both le more ∙ ap (λ k. sought k (s ∷ [])) zero_left)

  beyond_one : (k : ℕ) → (k ≡ 0 → ⊥) → Left (k - 1) ≡ sought k (s ∷ [])
  beyond_one zero some = absurd (some refl)
  beyond_one (suc k) some = ap Left (omega arith)

  pub left_third : length xs ≤ n → length ys ≤ n - length xs → (n - length xs - length ys ≡ 0 → ⊥) → Left (n - length xs - length ys - 1) ≡ sought n words
  left_third le more some = beyond_one (n - length xs - length ys) some ∙ sym (behind_both le more)
