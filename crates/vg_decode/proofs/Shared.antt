-- Words that fit two patterns.
use Rattle.std.proofs.Common.{◌≡◌, ℕ, ◌<◌, ◌≤◌, ◌^◌, Bool, true, false, min, max, nat_eq, bit_and, bit_or, Some, None, arith, refl, sym, ap, ◌∙◌, subst, if◌then◌else◌}
use Rattle.std.specs.Int.{bit_at}
use Rattle.std.proofs.lemmas.Bool.{both_ways}
use Rattle.std.proofs.lemmas.Nat.{and_assoc, and_comm, and_le_l, and_le_r, or_lt}
use Rattle.std.proofs.lemmas.Nat.Bits.{bit_at_and, bit_at_or, same_from_bits}
use Rattle.vg_isa.proofs.Tests.{true-nat_eq, nat_eq-true}
use Rattle.vg_format.specs.declared.pattern.Pattern.{Pattern}
use Rattle.vg_format.specs.Pattern.{fits}
use Rattle.vg_decode.specs.Pairs.{shared_word}

-- a pattern of words of so many bits
pub record IsProper (n : ℕ) (p : Pattern) : Type 0 where
  pub mask : p.mask < 2 ^ n
  pub value : bit_and p.value p.mask ≡ p.value

-- the least word of so many bits that fits two patterns
pub record IsShared (n : ℕ) (p q : Pattern) (word : ℕ) : Type 0 where
  pub below : word < 2 ^ n
  pub first : fits p word ≡ true
  pub second : fits q word ≡ true
  pub least : (other : ℕ) → fits p other ≡ true → fits q other ≡ true → word ≤ other

-- words that fit both have the same at the bits that both fix
agreeing : (p q : Pattern) (word : ℕ) → fits p word ≡ true → fits q word ≡ true → bit_and p.value q.mask ≡ bit_and q.value p.mask
agreeing p q word fit_p fit_q =
    ap (λ n. bit_and n q.mask) (sym (true-nat_eq _ _ fit_p)) ∙ and_assoc q.mask word p.mask ∙ ap (bit_and word) (and_comm p.mask q.mask)
    ∙ sym (and_assoc p.mask word q.mask) ∙ ap (λ n. bit_and n p.mask) (true-nat_eq _ _ fit_q)

-- where the values agree, both together have the first at its mask
joined_first : (v m w k : ℕ) → bit_and v m ≡ v → bit_and v k ≡ bit_and w m → bit_and (bit_or v w) m ≡ v
joined_first v m w k own agree = same_from_bits (bit_and (bit_or v w) m) v at
  where
    at : (i : ℕ) → bit_at (bit_and (bit_or v w) m) i ≡ bit_at v i
    at i =
        let both : bit_at (bit_and (bit_or v w) m) i ≡ min (bit_at (bit_or v w) i) (bit_at m i) = bit_at_and (bit_or v w) m i in
        let either : bit_at (bit_or v w) i ≡ max (bit_at v i) (bit_at w i) = bit_at_or v w i in
        let within : min (bit_at v i) (bit_at m i) ≡ bit_at v i = sym (bit_at_and v m i) ∙ ap (λ n. bit_at n i) own in
        let same : min (bit_at v i) (bit_at k i) ≡ min (bit_at w i) (bit_at m i) = sym (bit_at_and v k i) ∙ ap (λ n. bit_at n i) agree ∙ bit_at_and w m i in
        omega arith

joined_second : (v m w k : ℕ) → bit_and w k ≡ w → bit_and v k ≡ bit_and w m → bit_and (bit_or v w) k ≡ w
joined_second v m w k own agree = same_from_bits (bit_and (bit_or v w) k) w at
  where
    at : (i : ℕ) → bit_at (bit_and (bit_or v w) k) i ≡ bit_at w i
    at i =
        let both : bit_at (bit_and (bit_or v w) k) i ≡ min (bit_at (bit_or v w) i) (bit_at k i) = bit_at_and (bit_or v w) k i in
        let either : bit_at (bit_or v w) i ≡ max (bit_at v i) (bit_at w i) = bit_at_or v w i in
        let within : min (bit_at w i) (bit_at k i) ≡ bit_at w i = sym (bit_at_and w k i) ∙ ap (λ n. bit_at n i) own in
        let same : min (bit_at v i) (bit_at k i) ≡ min (bit_at w i) (bit_at m i) = sym (bit_at_and v k i) ∙ ap (λ n. bit_at n i) agree ∙ bit_at_and w m i in
        omega arith

-- a word that has two values has both together, and so isn't less
no_less : (x v m w k : ℕ) → bit_and x m ≡ v → bit_and x k ≡ w → bit_or v w ≤ x
no_less x v m w k has_v has_w = subst (λ n. n ≤ x) (same_from_bits (bit_and x (bit_or v w)) (bit_or v w) at) (and_le_l x (bit_or v w))
  where
    at : (i : ℕ) → bit_at (bit_and x (bit_or v w)) i ≡ bit_at (bit_or v w) i
    at i =
        let both : bit_at (bit_and x (bit_or v w)) i ≡ min (bit_at x i) (bit_at (bit_or v w) i) = bit_at_and x (bit_or v w) i in
        let either : bit_at (bit_or v w) i ≡ max (bit_at v i) (bit_at w i) = bit_at_or v w i in
        let first : min (bit_at x i) (bit_at m i) ≡ bit_at v i = sym (bit_at_and x m i) ∙ ap (λ n. bit_at n i) has_v in
        let second : min (bit_at x i) (bit_at k i) ≡ bit_at w i = sym (bit_at_and x k i) ∙ ap (λ n. bit_at n i) has_w in
        omega arith

value_below : (n : ℕ) (p : Pattern) → IsProper n p → p.value < 2 ^ n
value_below n p h =
    let most : bit_and p.value p.mask ≤ p.mask = and_le_r p.value p.mask in
    let own : bit_and p.value p.mask ≡ p.value = h.value in
    let small : p.mask < 2 ^ n = h.mask in
    omega arith

pub shared_is : (n : ℕ) (p q : Pattern) (word : ℕ) → IsProper n p → IsProper n q → shared_word p q ≡ Some word → IsShared n p q word
shared_is n p q word proper_p proper_q h = at (nat_eq (bit_and p.value q.mask) (bit_and q.value p.mask)) refl h
  where
    at : (b : Bool) → nat_eq (bit_and p.value q.mask) (bit_and q.value p.mask) ≡ b → (if b then Some (bit_or p.value q.value) else None) ≡ Some word → IsShared n p q word
    at false e h = cc
    at true e h =
        let agree : bit_and p.value q.mask ≡ bit_and q.value p.mask = true-nat_eq _ _ e in
        let is : bit_or p.value q.value ≡ word = cc in
        subst (IsShared n p q) is (record {
          below = or_lt n p.value q.value (value_below n p proper_p) (value_below n q proper_q);
          first = nat_eq-true _ _ (joined_first p.value p.mask q.value q.mask proper_p.value agree);
          second = nat_eq-true _ _ (joined_second p.value p.mask q.value q.mask proper_q.value agree);
          least = λ other fit_p fit_q. no_less other p.value p.mask q.value q.mask (true-nat_eq _ _ fit_p) (true-nat_eq _ _ fit_q);
        })

pub shared_none : (p q : Pattern) → shared_word p q ≡ None → (word : ℕ) → fits p word ≡ true → fits q word ≡ true → ⊥
shared_none p q h word fit_p fit_q = at (nat_eq (bit_and p.value q.mask) (bit_and q.value p.mask)) refl h
  where
    at : (b : Bool) → nat_eq (bit_and p.value q.mask) (bit_and q.value p.mask) ≡ b → (if b then Some (bit_or p.value q.value) else None) ≡ None → ⊥
    at false e h = both_ways _ e (nat_eq-true _ _ (agreeing p q word fit_p fit_q))
    at true e h = cc
