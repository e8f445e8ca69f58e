-- What tests of several things at once tell, and tests of numbers.
use Rattle.std.proofs.Common.{◌≡◌, ℕ, suc, ◌+◌, max, Bool, true, false, not, ◌&&◌, ◌||◌, nat_eq, nat_le, nat_lt, refl, arith}
use Rattle.std.proofs.lemmas.Bool.Decides.{nat_tests}
pub use Rattle.std.proofs.lemmas.Bool.{and_parts as both, and_from as both-from}

pub three : (a b c : Bool) → (a && b && c) ≡ true → (a ≡ true) × (b ≡ true) × (c ≡ true)
three true true c h = (refl, refl, h)
three true false c h = cc
three false b c h = cc

pub four : (a b c d : Bool) → (a && b && c && d) ≡ true → (a ≡ true) × (b ≡ true) × (c ≡ true) × (d ≡ true)
four true true true d h = (refl, refl, refl, h)
four true true false d h = cc
four true false c d h = cc
four false b c d h = cc

pub three-from : (a b c : Bool) → a ≡ true → b ≡ true → c ≡ true → (a && b && c) ≡ true
three-from a b c h k l = rw (h, k, l) refl

pub four-from : (a b c d : Bool) → a ≡ true → b ≡ true → c ≡ true → d ≡ true → (a && b && c && d) ≡ true
four-from a b c d h k l m = rw (h, k, l, m) refl

pub le_trans : (a b c : ℕ) → nat_le a b ≡ true → nat_le b c ≡ true → nat_le a c ≡ true
le_trans a b c h k = grind (arith, nat_tests)

-- one level more is no deeper than the greatest depth
pub deeper : (m n : ℕ) → nat_lt m 64 ≡ true → m ≡ n → nat_le (1 + n) 64 ≡ true
deeper m n h e = grind (arith, nat_tests)

pub least_of_zero : (n m : ℕ) → nat_eq n 0 ≡ true → nat_le n m ≡ true
least_of_zero n m h = grind (arith, nat_tests)

pub reaches_same : (a b c : ℕ) → b ≡ c → nat_le a b ≡ true → nat_le a c ≡ true
reaches_same a b c e h = rw (← e) h

pub none_of : (a b c d : Bool) → a ≡ false → b ≡ false → c ≡ false → d ≡ true → (not a && not b && not c && d) ≡ true
none_of a b c d h k l m = rw (h, k, l, m) refl

not_true : (a : Bool) → not a ≡ true → a ≡ false
not_true false h = refl
not_true true h = cc

pub none_of-parts : (a b c d : Bool) → (not a && not b && not c && d) ≡ true → (a ≡ false) × (b ≡ false) × (c ≡ false) × (d ≡ true)
none_of-parts a b c d h = let p = four (not a) (not b) (not c) d h in (not_true a p.0, not_true b p.1, not_true c p.2, p.3)

pub either_left : (a b : Bool) → a ≡ true → (a || b) ≡ true
either_left a b h = rw h refl

pub either_right : (a b : Bool) → b ≡ false → (a || not b) ≡ true
either_right true b h = refl
either_right false b h = rw h refl

pub other_part : (a b : Bool) → (a || not b) ≡ true → a ≡ false → b ≡ false
other_part true b h k = cc
other_part false b h k = not_true b h

-- a level that is higher than another isn't at most as high
pub not_reached : (a b : ℕ) → nat_lt b a ≡ true → nat_le a b ≡ false
not_reached a b h = grind (arith, nat_tests)

pub higher : (a b : ℕ) → nat_le a b ≡ false → nat_lt b a ≡ true
higher a b h = grind (arith, nat_tests)

pub lt_of_le : (a b c : ℕ) → nat_lt a b ≡ true → nat_le b c ≡ true → nat_lt a c ≡ true
lt_of_le a b c h k = grind (arith, nat_tests)

-- Depths: n is the greatest depth of a part, and n + 1 that of the whole.

pub one_part : (m n : ℕ) → nat_le (1 + m) (suc n) ≡ true → nat_le m n ≡ true
one_part m n h = grind (arith, nat_tests)

pub two_parts : (a b n : ℕ) → nat_le (max a b) n ≡ true → (nat_le a n ≡ true) × (nat_le b n ≡ true)
two_parts a b n h = (left a b n h, right a b n h)
  where
    left : (a b n : ℕ) → nat_le (max a b) n ≡ true → nat_le a n ≡ true
    left a b n h = grind (arith, nat_tests)

    right : (a b n : ℕ) → nat_le (max a b) n ≡ true → nat_le b n ≡ true
    right a b n h = grind (arith, nat_tests)

pub room : (m n : ℕ) → nat_le m n ≡ true → nat_lt n 64 ≡ true → nat_lt m 64 ≡ true
room m n h k = grind (arith, nat_tests)

pub le_suc : (m n : ℕ) → nat_le m n ≡ true → nat_le m (suc n) ≡ true
le_suc m n h = grind (arith, nat_tests)
