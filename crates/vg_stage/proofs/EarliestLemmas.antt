-- The least place of lists one behind the other, and of places put in order.
use Rattle.std.proofs.Common.{◌≡◌, ℕ, min, nat_le, Bool, true, false, List, [], ◌∷◌, ◌++◌, Option, Some, None, if◌then◌else◌, refl, ap, sym, ◌∙◌, arith}
use Rattle.vg_names.specs.First.{first_of}
use Rattle.vg_tree.specs.Access.{inserted, in_order}
use Rattle.vg_stage.specs.Earliest.{earlier, least}

pub earlier_none : (a : Option ℕ) → earlier a None ≡ a
earlier_none None = refl
earlier_none (Some a) = refl

pub earlier_assoc : (a b c : Option ℕ) → earlier (earlier a b) c ≡ earlier a (earlier b c)
earlier_assoc None b c = refl
earlier_assoc (Some a) None c = refl
earlier_assoc (Some a) (Some b) None = refl
earlier_assoc (Some a) (Some b) (Some c) = ap (λ n. Some n) (least_of_three a b c)
  where
    least_of_three : (a b c : ℕ) → min (min a b) c ≡ min a (min b c)
    least_of_three a b c = omega arith

pub least_append : (xs ys : List ℕ) → least (xs ++ ys) ≡ earlier (least xs) (least ys)
least_append [] ys = refl
least_append (x ∷ xs) ys = ap (earlier (Some x)) (least_append xs ys) ∙ sym (earlier_assoc (Some x) (least xs) (least ys))

first_inserted : (at : ℕ) (xs : List ℕ) → first_of (inserted at xs) ≡ earlier (Some at) (first_of xs)
first_inserted at [] = refl
first_inserted at (x ∷ xs) = by (nat_le at x) refl
  where
    by : (b : Bool) → nat_le at x ≡ b → first_of (if b then at ∷ x ∷ xs else x ∷ inserted at xs) ≡ Some (min at x)
    by true e = ap (λ n. Some n) (grind arith)
    by false e = ap (λ n. Some n) (grind arith)

-- the first of places in order is the least
pub first_in_order : (xs : List ℕ) → first_of (in_order xs) ≡ least xs
first_in_order [] = refl
first_in_order (x ∷ xs) = first_inserted x (in_order xs) ∙ ap (earlier (Some x)) (first_in_order xs)
