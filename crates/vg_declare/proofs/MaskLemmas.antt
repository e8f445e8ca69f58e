-- Numbers as sets of the bits that spans name.
use Rattle.std.proofs.Common.{◌≡◌, ℕ, ◌+◌, ◌-◌, ◌*◌, ◌%◌, ◌^◌, ◌<◌, ◌≤◌, min, max, bit_and, bit_or, Bool, true, false, not, ◌&&◌, ◌||◌, ◌⊎◌, inl, inr, nat_le, nat_lt, nat_eq, List, [], ◌∷◌, ◌++◌, length, get_or, refl, ap, sym, subst, ◌∙◌, arith}
use Rattle.std.specs.Int.{bit_at, trailing_zeros, w128}
use Rattle.std.specs.List.{list_all, list_any, range_with_len}
use Rattle.std.proofs.Math.Nat.{mod-eq_of_lt, one-le-pow}
use Rattle.std.proofs.Math.Pow.{pow_mono, ones_lt}
use Rattle.std.proofs.lemmas.Nat.{or_lt, and_le_l, pow_below}
use Rattle.std.proofs.lemmas.Nat.Bits.{bit_at_or, bit_at_and, bit_at-zero, bit_at_mask_inside, bit_at_mask_below, bit_at_mask_above, bit_at_above, bit_at_ones, bit_at-trailing_zeros, same_from_bits_below}
use Rattle.std.proofs.lemmas.List.FromFn.{length-range_with_len, get_or-range_with_len}
use Rattle.std.proofs.lemmas.List.Sums.{list_all-from_AllPass}
use Rattle.std.proofs.lemmas.Bool.{eq-eqb, ne_eqb, not_from_false, true_from_ne_false, and_from, and_parts, or_cases, or_left, or_right, leb-true, true≢false, both_ways, cases_lt}
use Rattle.std.proofs.lemmas.Bool.Decides.{nat_tests}
use Rattle.std.proofs.lemmas.List.Folds.{list_all-append, list_any-append, list_all_at}
use Rattle.vg_declare.specs.declared.span.Span.{Span}
use Rattle.vg_declare.specs.FieldCover.{names_bit, meet, are_named}
use Rattle.vg_declare.specs.Mask.{Names, bit_if, is_span}

-- ---- one bit

pub one_shl : (k : ℕ) → k ≤ 64 → 1 * 2 ^ k % 340282366920938463463374607431768211456 ≡ 2 ^ k
one_shl k h =
    let below : 2 ^ k < 2 ^ 128 = pow_below k 128 (omega arith) in
    let same : 1 * 2 ^ k ≡ 2 ^ k = omega arith in
    ap (λ (n : ℕ). n % 340282366920938463463374607431768211456) same ∙ mod-eq_of_lt below

bit_if_or : (s t : Bool) → max (bit_if s) (bit_if t) ≡ bit_if (s || t)
bit_if_or true true = refl
bit_if_or true false = refl
bit_if_or false true = refl
bit_if_or false false = refl

bit_is : (t : Bool) → bit_if t ≡ 1 → t ≡ true
bit_is true e = refl
bit_is false e = absurd (omega arith)

pub nat_span : (s : Span) → is_span s ≡ true → s.low ≤ s.high
nat_span s e = leb-true s.low s.high e

-- ---- unions

pub nothing_named : (w : ℕ) → Names w 0 []
nothing_named w = record { below = one-le-pow w 2 (omega arith); bits = λ b h. bit_at-zero b; sorted = refl }

pub both_named : (w m n : ℕ) (xs ys : List Span) → Names w m xs → Names w n ys → Names w (bit_or m n) (xs ++ ys)
both_named w m n xs ys h k = record {
  below = or_lt w m n h.below k.below;
  bits = λ b l.
      bit_at_or m n b ∙ ap (λ (x : ℕ). max x (bit_at n b)) (h.bits b l) ∙ ap (max (bit_if (list_any (names_bit b) xs))) (k.bits b l)
      ∙ bit_if_or (list_any (names_bit b) xs) (list_any (names_bit b) ys) ∙ ap bit_if (sym (list_any-append (names_bit b) xs ys));
  sorted = list_all-append is_span xs ys ∙ and_from (list_all is_span xs) (list_all is_span ys) h.sorted k.sorted;
}

or_comm : (s t : Bool) → (s || t) ≡ (t || s)
or_comm true true = refl
or_comm true false = refl
or_comm false true = refl
or_comm false false = refl

-- the order of spans means nothing
pub turned : (w m : ℕ) (xs ys : List Span) → Names w m (xs ++ ys) → Names w m (ys ++ xs)
turned w m xs ys h = record {
  below = h.below;
  bits = λ b l.
      h.bits b l ∙ ap bit_if (list_any-append (names_bit b) xs ys ∙ or_comm (list_any (names_bit b) xs) (list_any (names_bit b) ys) ∙ sym (list_any-append (names_bit b) ys xs));
  sorted =
      let parts = and_parts (list_all is_span xs) (list_all is_span ys) (sym (list_all-append is_span xs ys) ∙ h.sorted) in
      list_all-append is_span ys xs ∙ and_from (list_all is_span ys) (list_all is_span xs) parts.1 parts.0;
}

-- ---- one span

or_nothing : (t : Bool) → (t || false) ≡ t
or_nothing true = refl
or_nothing false = refl

and_all : (t : Bool) → (t && true) ≡ t
and_all true = refl
and_all false = refl

outside : (w b : ℕ) (s : Span) → w ≤ s.low → b < w → names_bit b s ≡ false
outside w b s h l = grind (arith, nat_tests, h, l)

pub above_named : (w : ℕ) (s : Span) → is_span s ≡ true → w ≤ s.low → Names w 0 (s ∷ [])
above_named w s e h = record {
  below = one-le-pow w 2 (omega arith);
  bits = λ b l. bit_at-zero b ∙ sym (ap bit_if (or_nothing (names_bit b s) ∙ outside w b s h l));
  sorted = and_all (is_span s) ∙ e;
}

-- a run of ones
ones_at : (low above b : ℕ) → bit_at (2 ^ above - 2 ^ low) b ≡ bit_if (nat_le low b && nat_lt b above)
ones_at low above b = by (nat_le low b) (nat_lt b above) refl refl
  where
    by : (s t : Bool) → nat_le low b ≡ s → nat_lt b above ≡ t → bit_at (2 ^ above - 2 ^ low) b ≡ bit_if (nat_le low b && nat_lt b above)
    by true true e h = bit_at_mask_inside low above b (grind (arith, nat_tests, e)) (grind (arith, nat_tests, h)) ∙ sym (ap bit_if (and_from (nat_le low b) (nat_lt b above) e h))
    by true false e h = bit_at_mask_above low above b (grind (arith, nat_tests, h)) ∙ sym (ap bit_if (ap (λ t. nat_le low b && t) h ∙ ap (λ t. t && false) e))
    by false t e h = bit_at_mask_below low above b (grind (arith, nat_tests, e)) ∙ sym (ap bit_if (ap (λ t. t && nat_lt b above) e))

same_bits : (w b : ℕ) (s : Span) (k : ℕ) → k ≡ min s.high (w - 1) → b < w → (nat_le s.low b && nat_lt b (k + 1)) ≡ names_bit b s
same_bits w b s k e l = grind (arith, nat_tests, e, l)

pub span_named : (w : ℕ) (s : Span) (k : ℕ) → is_span s ≡ true → s.low < w → k ≡ min s.high (w - 1) → Names w (2 ^ (k + 1) - 2 ^ s.low) (s ∷ [])
span_named w s k e h is = record {
  below =
      let most : 2 ^ (k + 1) ≤ 2 ^ w = pow_mono (omega arith) in
      let one : 1 ≤ 2 ^ s.low = one-le-pow s.low 2 (omega arith) in
      let some : 1 ≤ 2 ^ w = one-le-pow w 2 (omega arith) in
      omega arith;
  bits = λ b l. ones_at s.low (k + 1) b ∙ ap bit_if (same_bits w b s k is l ∙ sym (or_nothing (names_bit b s)));
  sorted = and_all (is_span s) ∙ e;
}

-- as the code computes it
pub mask_is : (k low : ℕ) → k ≤ 64 → low ≤ 64 → 1 * 2 ^ k % 340282366920938463463374607431768211456 - 1 * 2 ^ low % 340282366920938463463374607431768211456 ≡ 2 ^ k - 2 ^ low
mask_is k low h l = ap (λ (n : ℕ). n - 1 * 2 ^ low % 340282366920938463463374607431768211456) (one_shl k h) ∙ ap (λ (n : ℕ). 2 ^ k - n) (one_shl low l)

pub mask_fits : (k low : ℕ) → k ≤ 64 → low ≤ k → 1 * 2 ^ low % 340282366920938463463374607431768211456 ≤ 1 * 2 ^ k % 340282366920938463463374607431768211456
mask_fits k low h l =
    let more : 2 ^ low ≤ 2 ^ k = pow_mono l in
    let a = one_shl k h in
    let b = one_shl low (omega arith) in
    omega arith

-- ---- a bit in common

-- two spans that meet have this bit in common
pub record Common (s : Span) (front : List Span) : Type 0 where
  pub bit : ℕ
  pub one : names_bit bit s ≡ true
  pub other : list_any (names_bit bit) front ≡ true

common_two : (s t : Span) → is_span s ≡ true → is_span t ≡ true → meet s t ≡ true → names_bit (max s.low t.low) s ≡ true
common_two s t e h m = grind (arith, nat_tests, e, h, m)

common_other : (s t : Span) → is_span s ≡ true → is_span t ≡ true → meet s t ≡ true → names_bit (max s.low t.low) t ≡ true
common_other s t e h m = grind (arith, nat_tests, e, h, m)

meets_by : (s t : Span) (b : ℕ) → names_bit b s ≡ true → names_bit b t ≡ true → meet s t ≡ true
meets_by s t b e h = grind (arith, nat_tests, e, h)

common_in : (s : Span) (front : List Span) → is_span s ≡ true → list_all is_span front ≡ true → list_any (meet s) front ≡ true → Common s front
common_in s [] e h m = absurd (true≢false (sym m))
common_in s (t ∷ front) e h m =
    let parts = and_parts (is_span t) (list_all is_span front) h in
    by parts.0 (common_in s front e parts.1) (or_cases (meet s t) (list_any (meet s) front) m)
  where
    by : is_span t ≡ true → (list_any (meet s) front ≡ true → Common s front) → (meet s t ≡ true) ⊎ (list_any (meet s) front ≡ true) → Common s (t ∷ front)
    by k behind (inl x) = record {
      bit = max s.low t.low;
      one = common_two s t e k x;
      other = or_left (names_bit (max s.low t.low) t) (list_any (names_bit (max s.low t.low)) front) (common_other s t e k x);
    }
    by k behind (inr x) = record {
      bit = (behind x).bit;
      one = (behind x).one;
      other = or_right (names_bit (behind x).bit t) (list_any (names_bit (behind x).bit) front) (behind x).other;
    }

meets_in : (s : Span) (front : List Span) (b : ℕ) → names_bit b s ≡ true → list_any (names_bit b) front ≡ true → list_any (meet s) front ≡ true
meets_in s [] b e h = absurd (true≢false (sym h))
meets_in s (t ∷ front) b e h = by (meets_in s front b e) (or_cases (names_bit b t) (list_any (names_bit b) front) h)
  where
    by : (list_any (names_bit b) front ≡ true → list_any (meet s) front ≡ true) → (names_bit b t ≡ true) ⊎ (list_any (names_bit b) front ≡ true) → (meet s t || list_any (meet s) front) ≡ true
    by behind (inl x) = or_left (meet s t) (list_any (meet s) front) (meets_by s t b e x)
    by behind (inr x) = or_right (meet s t) (list_any (meet s) front) (behind x)

-- ---- what the code computes of masks

pub span_computed : (w : ℕ) (s : Span) (k : ℕ) → w ≤ 64 → is_span s ≡ true → s.low < w → k ≡ min s.high (w - 1)
    → Names w (1 * 2 ^ (k + 1) % 340282366920938463463374607431768211456 - 1 * 2 ^ s.low % 340282366920938463463374607431768211456) (s ∷ [])
span_computed w s k narrow e h is =
    subst (λ (n : ℕ). Names w n (s ∷ [])) (sym (mask_is (k + 1) s.low (omega arith) (omega arith))) (span_named w s k e h is)

-- the span is one of the word
module _ (w named mask : ℕ) (s : Span) (front : List Span) (narrow : w ≤ 64) (sorted : is_span s ≡ true) (within : s.high < w) (n : Names w named front) (m : Names w mask (s ∷ [])) where
  high_bit : (b : ℕ) → names_bit b s ≡ true → b < w
  high_bit b e = grind (arith, nat_tests, e, within)

  both_bits : (b : ℕ) → b < w → bit_at (bit_and named mask) b ≡ min (bit_if (list_any (names_bit b) front)) (bit_if (names_bit b s))
  both_bits b l =
      bit_at_and named mask b ∙ ap (λ (x : ℕ). min x (bit_at mask b)) (n.bits b l)
      ∙ ap (min (bit_if (list_any (names_bit b) front))) (m.bits b l ∙ ap bit_if (or_nothing (names_bit b s)))

  not_apart : Common s front → bit_and named mask ≡ 0 → ⊥
  not_apart c e =
      let one : bit_at (bit_and named mask) c.bit ≡ 1 = both_bits c.bit (high_bit c.bit c.one) ∙ ap (λ (x : ℕ). min x (bit_if (names_bit c.bit s))) (ap bit_if c.other) ∙ ap (min 1) (ap bit_if c.one) in
      let none : bit_at (bit_and named mask) c.bit ≡ 0 = ap (λ (x : ℕ). bit_at x c.bit) e ∙ bit_at-zero c.bit in
      absurd (omega arith)

  one_of_both : (s t : Bool) → min (bit_if s) (bit_if t) ≡ 1 → (s ≡ true) × (t ≡ true)
  one_of_both true true e = (refl, refl)
  one_of_both true false e = absurd (omega arith)
  one_of_both false true e = absurd (omega arith)
  one_of_both false false e = absurd (omega arith)

  small : bit_and named mask < 2 ^ w
  small = let less = and_le_l named mask in let below = n.below in omega arith

  apart_met : 0 < bit_and named mask → list_any (meet s) front ≡ true
  apart_met some =
      let wide : 2 ^ w ≤ 2 ^ 128 = pow_mono {i = w} {j = 128} (omega arith) in
      let less : bit_and named mask < 2 ^ w = small in
      let found = bit_at-trailing_zeros w128 (bit_and named mask) some (omega arith) in
      at_bit (trailing_zeros w128 (bit_and named mask)) found.1
    where
      at_bit : (b : ℕ) → bit_at (bit_and named mask) b ≡ 1 → list_any (meet s) front ≡ true
      at_bit b e = by (cases_lt b w)
        where
          by : (b < w) ⊎ (w ≤ b) → list_any (meet s) front ≡ true
          by (inl l) =
              let parts = one_of_both (list_any (names_bit b) front) (names_bit b s) (sym (both_bits b l) ∙ e) in
              meets_in s front b parts.1 parts.0
          by (inr g) = let none = bit_at_above (bit_and named mask) w b small g in absurd (omega arith)

  met_by : (t : Bool) → list_any (meet s) front ≡ t → not (nat_eq (bit_and named mask) 0) ≡ t
  met_by true e = not_from_false (nat_eq (bit_and named mask) 0) (ne_eqb (bit_and named mask) 0 (not_apart (common_in s front sorted n.sorted e)))
  met_by false e = ap not (eq-eqb (bit_and named mask) 0 (zero_by (cases_lt 0 (bit_and named mask))))
    where
      zero_by : (0 < bit_and named mask) ⊎ (bit_and named mask ≤ 0) → bit_and named mask ≡ 0
      zero_by (inl l) = absurd (true≢false (sym (apart_met l) ∙ e))
      zero_by (inr g) = omega arith

  pub met_is : not (nat_eq (bit_and named mask) 0) ≡ list_any (meet s) front
  met_is = met_by (list_any (meet s) front) refl

-- ---- all bits

-- what holds of each number of a range holds of each below its end
pub each_below : (p : ℕ → Bool) (w b : ℕ) → list_all p (range_with_len 0 w) ≡ true → b < w → p b ≡ true
each_below p w b e h =
    true_from_ne_false (p b) (λ f. both_ways (list_all p (range_with_len 0 w))
    (let within : b < length (range_with_len 0 w) = (let long = length-range_with_len 0 w in omega arith) in
    let same : get_or (range_with_len 0 w) b 0 ≡ b = (let at = get_or-range_with_len 0 w b 0 h in omega arith) in
    list_all_at p (range_with_len 0 w) b 0 within (ap p same ∙ f)) e)

pub all_below : (p : ℕ → Bool) (w : ℕ) → ((b : ℕ) → b < w → p b ≡ true) → list_all p (range_with_len 0 w) ≡ true
all_below p w h =
    list_all-from_AllPass p (range_with_len 0 w) (λ k d l.
    let within : k < w = (let long = length-range_with_len 0 w in omega arith) in
    let same : get_or (range_with_len 0 w) k d ≡ k = (let at = get_or-range_with_len 0 w k d within in omega arith) in
    ap p same ∙ h k within)

module _ (w named : ℕ) (spans : List Span) (n : Names w named spans) where
  named_full : are_named w spans ≡ true → named ≡ 2 ^ w - 1
  named_full e = same_from_bits_below w named (2 ^ w - 1) n.below (ones_lt w) (λ i l.
      n.bits i l ∙ ap bit_if (each_below (λ b. list_any (names_bit b) spans) w i e l) ∙ sym (bit_at_ones w i l))

  full_named : named ≡ 2 ^ w - 1 → are_named w spans ≡ true
  full_named e = all_below (λ b. list_any (names_bit b) spans) w (λ b l.
      bit_is (list_any (names_bit b) spans) (sym (n.bits b l) ∙ ap (λ (x : ℕ). bit_at x b) e ∙ bit_at_ones w b l))

  full_by : (t : Bool) → are_named w spans ≡ t → nat_eq named (2 ^ w - 1) ≡ t
  full_by true e = eq-eqb named (2 ^ w - 1) (named_full e)
  full_by false e = ne_eqb named (2 ^ w - 1) (λ h. true≢false (sym (full_named h) ∙ e))

  pub full_is : w ≤ 64 → nat_eq named (1 * 2 ^ w % 340282366920938463463374607431768211456 - 1) ≡ are_named w spans
  full_is narrow = ap (λ (x : ℕ). nat_eq named (x - 1)) (one_shl w narrow) ∙ full_by (are_named w spans) refl
