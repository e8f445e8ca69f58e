-- The least places of two lists are one where the lists have places up to the same numbers.
use Rattle.std.proofs.Common.{◌≡◌, ℕ, min, nat_le, Bool, true, false, ◌||◌, ◌&&◌, List, [], ◌∷◌, ◌++◌, Option, Some, None, refl, ap, sym, ◌∙◌, arith}
use Rattle.vg_type.specs.Judged.{told}
use Rattle.vg_stage.specs.Earliest.{earlier, least}

-- there is a place, and it is no greater than this
abbrev pub is_up_to : ℕ → Option ℕ → Bool
is_up_to n None = false
is_up_to n (Some m) = nat_le m n

-- one of the places is no greater than this
abbrev pub any_up_to : ℕ → List ℕ → Bool
any_up_to n [] = false
any_up_to n (m ∷ ms) = nat_le m n || any_up_to n ms

or_false : (b : Bool) → (b || false) ≡ b
or_false true = refl
or_false false = refl

less_up_to : (n a b : ℕ) → nat_le (min a b) n ≡ (nat_le a n || nat_le b n)
less_up_to n a b = by (nat_le (min a b) n) (nat_le a n) (nat_le b n) refl refl refl
  where
    by : (r p q : Bool) → nat_le (min a b) n ≡ r → nat_le a n ≡ p → nat_le b n ≡ q → r ≡ (p || q)
    by true true q e f g = refl
    by true false true e f g = refl
    by true false false e f g = absurd (grind arith)
    by false true q e f g = absurd (grind arith)
    by false false true e f g = absurd (grind arith)
    by false false false e f g = refl

earlier_up_to : (n : ℕ) (a b : Option ℕ) → is_up_to n (earlier a b) ≡ (is_up_to n a || is_up_to n b)
earlier_up_to n None b = refl
earlier_up_to n (Some a) None = sym (or_false (nat_le a n))
earlier_up_to n (Some a) (Some b) = less_up_to n a b

least_up_to : (n : ℕ) (xs : List ℕ) → is_up_to n (least xs) ≡ any_up_to n xs
least_up_to n [] = refl
least_up_to n (x ∷ xs) = earlier_up_to n (Some x) (least xs) ∙ ap (λ b. nat_le x n || b) (least_up_to n xs)

itself : (n : ℕ) → nat_le n n ≡ true
itself n = grind arith

both_ways : (a b : ℕ) → nat_le a b ≡ true → nat_le b a ≡ true → a ≡ b
both_ways a b e f = grind arith

-- an optional place is told by the numbers that it is up to
one_place : (a b : Option ℕ) → ((n : ℕ) → is_up_to n a ≡ is_up_to n b) → a ≡ b
one_place None None h = refl
one_place None (Some b) h = let e : false ≡ true = h b ∙ itself b in absurd (cc)
one_place (Some a) None h = let e : true ≡ false = sym (itself a) ∙ h a in absurd (cc)
one_place (Some a) (Some b) h = ap (λ n. Some n) (both_ways a b (h b ∙ itself b) (sym (h a) ∙ itself a))

-- lists with places up to the same numbers have one least place
pub one_least : (xs ys : List ℕ) → ((n : ℕ) → any_up_to n xs ≡ any_up_to n ys) → least xs ≡ least ys
one_least xs ys h = one_place (least xs) (least ys) (λ n. least_up_to n xs ∙ h n ∙ sym (least_up_to n ys))

-- a place that may be told, in front of others
pub told_up_to : (n at : ℕ) (b : Bool) (xs : List ℕ) → any_up_to n (told b at ++ xs) ≡ ((b && nat_le at n) || any_up_to n xs)
told_up_to n at true xs = refl
told_up_to n at false xs = refl
