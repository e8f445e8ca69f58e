-- What is too many, and the first of places over several things.
use Rattle.std.proofs.Common.{◌≡◌, ℕ, zero, suc, ◌+◌, ◌<◌, ◌≤◌, true, false, nat_lt, List, [], ◌∷◌, ◌++◌, map, flat_map, length, drop, get_or, add-one, drop-cons, Option, Some, None, refl, sym, ap, ◌∙◌, arith}
use Rattle.std.proofs.Math.ListN.{drop_of_length-le}
use Rattle.std.proofs.lemmas.Bool.Decides.{nat_tests}
use Rattle.std.proofs.lemmas.Option.{slice_get_past, slice_get-get_or}
use Rattle.std.specs.Prelude.{slice_get, slice_index_or}
use Rattle.vg_ir.specs.declared.spot.Spot.{Spot}
use Rattle.vg_ircheck.specs.Place.{first_of, first_place}
use Rattle.vg_ircheck.specs.Counts.{first_beyond}
use Rattle.vg_ircheck.proofs.PlaceLemmas.{first_of_both, first_of_three, first_of_nothing, first_of_one, first_of_none}

module _ {X : Type 0} (place : X → Spot) where
  -- it stands at the place of that element
  abbrev at_element : Option X → Option Spot
  at_element None = None
  at_element (Some x) = Some (place x)

  map_get : (xs : List X) (n : ℕ) → slice_get (map place xs) n ≡ at_element (slice_get xs n)
  map_get [] n = refl
  map_get (x ∷ xs) zero = refl
  map_get (x ∷ xs) (suc n) = map_get xs n

  told : (o : Option Spot) → first_place (elim o [ None ↦ [] | Some s ↦ s ∷ [] ]) ≡ o
  told None = first_of_nothing
  told (Some s) = first_of_one s

  -- the first of some elements that is too many
  pub beyond_of_map : (xs : List X) (most : ℕ) → first_place (first_beyond most (map place xs)) ≡ at_element (slice_get xs most)
  beyond_of_map xs most = told (slice_get (map place xs) most) ∙ map_get xs most

  past : (xs : List X) (most : ℕ) → false ≡ nat_lt most (length xs) → length xs ≤ most
  past xs most e = grind (arith, nat_tests)

  inside : (xs : List X) (most : ℕ) → true ≡ nat_lt most (length xs) → most < length xs
  inside xs most e = grind (arith, nat_tests)

  pub none_beyond : (xs : List X) (most : ℕ) → false ≡ nat_lt most (length xs) → None ≡ first_place (first_beyond most (map place xs))
  none_beyond xs most e = sym (beyond_of_map xs most ∙ ap at_element (slice_get_past xs most (past xs most e)))

  pub some_beyond : (xs : List X) (most : ℕ) (x : X) → true ≡ nat_lt most (length xs) → x ≡ slice_index_or xs most x → Some (place x) ≡ first_place (first_beyond most (map place xs))
  some_beyond xs most x e is = sym (beyond_of_map xs most ∙ ap at_element (slice_get-get_or xs most x (inside xs most e) ∙ ap Some (sym is)))

-- nothing is too many of none
pub beyond_of_none : (most : ℕ) → None ≡ first_place (first_beyond most [])
beyond_of_none most = sym first_of_nothing

-- The first place of several things, from one of them on, where the first of those before it is known.
module _ {X : Type 0} (places : X → List Spot) (xs : List X) (i : ℕ) (x : X) (within : i < length xs) (is : x ≡ get_or xs i x) where
  each_drop : flat_map places (drop i xs) ≡ places x ++ flat_map places (drop (i + 1) xs)
  each_drop =
      ap (flat_map places) (drop-cons xs i x within) ∙ ap (λ n. places (get_or xs i x) ++ flat_map places (drop n xs)) (sym (add-one i))
      ∙ ap (λ y. places y ++ flat_map places (drop (i + 1) xs)) (sym is)

  pub one_behind : (first : Option Spot) → first_of first (first_place (flat_map places (drop i xs)))
      ≡ first_of (first_of first (first_place (places x))) (first_place (flat_map places (drop (i + 1) xs)))
  one_behind first =
      ap (λ ys. first_of first (first_place ys)) each_drop
      ∙ ap (first_of first) (first_of_both (places x) (flat_map places (drop (i + 1) xs)))
      ∙ first_of_three first (first_place (places x)) (first_place (flat_map places (drop (i + 1) xs)))

  -- the first place so far, and the places of one thing more
  pub one_more : (first one new whole : Option Spot) → first_of first (first_place (flat_map places (drop i xs))) ≡ whole
      → one ≡ first_place (places x) → new ≡ first_of first one → first_of new (first_place (flat_map places (drop (i + 1) xs))) ≡ whole
  one_more first one new whole before e is_new =
      ap (λ o. first_of o (first_place (flat_map places (drop (i + 1) xs)))) (is_new ∙ ap (first_of first) e)
      ∙ sym (one_behind first) ∙ before

-- where nothing is left the first place so far is that of all
pub all_told : {X : Type 0} (places : X → List Spot) (xs : List X) (i : ℕ) (first whole : Option Spot) → length xs ≤ i
    → first_of first (first_place (flat_map places (drop i xs))) ≡ whole → first ≡ whole
all_told places xs i first whole h e =
    sym (ap (λ ys. first_of first (first_place (flat_map places ys))) (drop_of_length-le xs h)
    ∙ ap (first_of first) first_of_nothing ∙ first_of_none first)
    ∙ e
