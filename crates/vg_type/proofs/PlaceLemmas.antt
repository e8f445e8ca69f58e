-- The first places of faults that stand one behind the other.
use Rattle.std.proofs.Common.{◌≡◌, ℕ, Bool, suc, ◌+◌, ◌<◌, ◌≤◌, List, ◌∷◌, length, drop, get_or, add-one, drop-cons, Option, Some, None, refl, ap, sym, ◌∙◌}
use Rattle.std.proofs.Math.ListN.{drop_of_length-le}
use Rattle.std.specs.Option.{option_or}
use Rattle.vg_names.proofs.FirstLemmas.{first_of_append}
use Rattle.vg_type.specs.declared.first_places.FirstPlaces.{FirstPlaces}
use Rattle.vg_type.specs.declared.value_type.ValueType.{ValueType}
use Rattle.vg_type.specs.Judged.{Judged, unfit, unlike, type_found}
use Rattle.vg_type.specs.Faults.{Faults, both, of_each, at_type, at_number}
use Rattle.vg_type.specs.FirstPlaces.{first_places, nowhere, earlier, found_at_type, found_at_number, found_at_condition}
use Rattle.vg_type.specs.Found.{first_found}
use Rattle.vg_type.specs.Statement.{at_condition, condition_widths}

abbrev places_of : Option ℕ → Option ℕ → FirstPlaces
places_of w r = record { width = w; range = r }

same_places : (w v r s : Option ℕ) → w ≡ v → r ≡ s → places_of w r ≡ places_of v s
same_places w v r s e h = ap (λ o. places_of o r) e ∙ ap (places_of v) h

pub both_first : (a b : Faults) → first_places (both a b) ≡ earlier (first_places a) (first_places b)
both_first a b = same_places _ _ _ _ (first_of_append a.widths b.widths) (first_of_append a.ranges b.ranges)

-- what the code puts together of the first places of two parts
pub joined : (a b : Faults) (r f g : FirstPlaces) → r ≡ earlier f g → f ≡ first_places a → g ≡ first_places b → r ≡ first_places (both a b)
joined a b r f g e h k = e ∙ ap (λ x. earlier x g) h ∙ ap (earlier (first_places a)) k ∙ sym (both_first a b)

-- the same, where the first part goes by a test
pub tested : (front : Bool → Faults) (behind : Faults) (test t : Bool) (r f g : FirstPlaces) → r ≡ earlier f g → f ≡ first_places (front test) → test ≡ t → g ≡ first_places behind
    → r ≡ first_places (both (front t) behind)
tested front behind test t r f g e h same k = joined (front t) behind r f g e (h ∙ ap (λ (b : Bool). first_places (front b)) same) k

-- ---- an expression at each kind of place

pub type_first : (t : Option ValueType) (j : Judged) → first_places (at_type t j) ≡ found_at_type t (first_found j)
type_first t j = same_places _ _ _ _ (first_of_append j.widths (unlike t j)) (first_of_append j.ranges (unfit t j))

pub number_first : (j : Judged) → first_places (at_number j) ≡ found_at_number (first_found j)
number_first j = same_places _ _ _ _ (first_of_append j.widths (type_found j.start j.sort)) refl

pub condition_first : (j : Judged) → first_places (at_condition j) ≡ found_at_condition (first_found j)
condition_first j = same_places _ _ _ _ (first_of_append j.widths (condition_widths j.start j.sort)) refl

-- ---- a list, one element after the other

option_assoc : (a b c : Option ℕ) → option_or (option_or a b) c ≡ option_or a (option_or b c)
option_assoc None b c = refl
option_assoc (Some n) b c = refl

or_none : (o : Option ℕ) → option_or o None ≡ o
or_none None = refl
or_none (Some n) = refl

earlier_assoc : (a b c : FirstPlaces) → earlier (earlier a b) c ≡ earlier a (earlier b c)
earlier_assoc a b c = same_places _ _ _ _ (option_assoc a.width b.width c.width) (option_assoc a.range b.range c.range)

pub earlier_nowhere : (a : FirstPlaces) → earlier a nowhere ≡ a
earlier_nowhere a = same_places _ _ _ _ (or_none a.width) (or_none a.range)

module _ {X : Type 0} (faults : X → Faults) (xs : List X) (k : ℕ) (acc : FirstPlaces)
    (so_far : first_places (of_each faults xs) ≡ earlier acc (first_places (of_each faults (drop k xs)))) where
  pub each_on : (x : X) (new one : FirstPlaces) → k < length xs → x ≡ get_or xs k x → new ≡ earlier acc one → one ≡ first_places (faults x)
      → first_places (of_each faults xs) ≡ earlier new (first_places (of_each faults (drop (k + 1) xs)))
  each_on x new one within is e h =
      so_far
      ∙ ap (λ (l : List X). earlier acc (first_places (of_each faults l))) (drop-cons xs k x within)
      ∙ ap (λ (y : X). earlier acc (first_places (of_each faults (y ∷ drop (suc k) xs)))) (sym is)
      ∙ ap (λ (n : ℕ). earlier acc (first_places (of_each faults (x ∷ drop n xs)))) (sym (add-one k))
      ∙ ap (earlier acc) (both_first (faults x) (of_each faults (drop (k + 1) xs)))
      ∙ sym (earlier_assoc acc (first_places (faults x)) (first_places (of_each faults (drop (k + 1) xs))))
      ∙ ap (λ (p : FirstPlaces). earlier p (first_places (of_each faults (drop (k + 1) xs)))) (sym (e ∙ ap (earlier acc) h))

  pub each_all : length xs ≤ k → acc ≡ first_places (of_each faults xs)
  each_all beyond =
      sym (so_far ∙ ap (λ (l : List X). earlier acc (first_places (of_each faults l))) (drop_of_length-le xs beyond) ∙ earlier_nowhere acc)
