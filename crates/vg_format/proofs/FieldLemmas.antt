-- A word with a field set.
use Rattle.std.proofs.Common.{◌≡◌, ◌≢◌, ℕ, ◌+◌, ◌-◌, ◌/◌, ◌%◌, ◌^◌, ◌<◌, ◌≤◌, Bool, true, false, IsTrue, nat_eq, nat_le, nat_lt, ◌&&◌, List, [], ◌∷◌, length, get_or, arith, refl, sym, ap, ◌∙◌, subst}
use Rattle.std.specs.Int.{bit_at}
use Rattle.std.proofs.Math.Nat.{mod-eq_of_lt, pow-le-pow_right}
use Rattle.std.proofs.lemmas.Bool.{and_from, both_ways}
use Rattle.std.proofs.lemmas.Bool.Decides.{nat_tests}
use Rattle.std.proofs.lemmas.Nat.Bits.{same_from_bits}
use Rattle.vg_bits.specs.BitValue.{BitValue, bit_value}
use Rattle.vg_isa.specs.declared.isa.Parts.{Parts}
use Rattle.vg_isa.specs.declared.ids.FieldId.{FieldId}
use Rattle.vg_isa.specs.Declaration.{bits_of, bits_in, are_in_word, field_of, has_field, ranges_of}
use Rattle.vg_isa.specs.Accepted.{is_isa}
use Rattle.vg_isa.specs.Same.{same_field}
use Rattle.vg_isa.proofs.Kept.{word_most}
use Rattle.vg_isa.proofs.Tests.{nat_eq-true}
use Rattle.vg_format.specs.Replaced.{with_range, with_ranges}
use Rattle.vg_format.specs.Setting.{SetsField, is_bit_of}
use Rattle.vg_format.proofs.RangeLemmas.{ranges_keep, ranges_read, ranges_below, same_reading, same_bits, lies_within, runs_down, rest_within, bits_cons}
use Rattle.vg_format.proofs.Apart.{KeepsRanges, field_ranges_kept, fields_apart}

-- ranges within a narrow word lie within a wider one
pub wider : (m n : ℕ) (ranges : List (ℕ × ℕ)) → m ≤ n → are_in_word m ranges ≡ true → are_in_word n ranges ≡ true
wider m n [] h within = refl
wider m n (r ∷ ranges) h within =
    let down : r.1 ≤ r.0 = runs_down m r ranges within in
    let high : r.0 < m = lies_within m r ranges within in
    and_from (nat_le r.1 r.0 && nat_lt r.0 n) (are_in_word n ranges) (here r down (omega arith)) (wider m n ranges h (rest_within m r ranges within))
  where
    here : (s : ℕ × ℕ) → s.1 ≤ s.0 → s.0 < n → (nat_le s.1 s.0 && nat_lt s.0 n) ≡ true
    here s p q = grind (arith, nat_tests)

-- a field of an accepted description lies within 64 bits
pub within_64 : (d : Parts) (f : FieldId) → IsTrue (is_isa d) → has_field d f ≡ true → are_in_word 64 (ranges_of d f) ≡ true
within_64 d f h has = wider d.word 64 (ranges_of d f) (word_most d h) (field_ranges_kept d f h has).within

-- one range takes the whole value
pub one_range : (r : ℕ × ℕ) (word value : ℕ) → value < 2 ^ (r.0 + 1 - r.1) → with_ranges (r ∷ []) word value ≡ with_range r word value
one_range r word value h = ap (with_range r word) (ap (λ n. n % 2 ^ (r.0 + 1 - r.1)) whole ∙ mod-eq_of_lt h)
  where
    whole : value / 2 ^ bits_of [] ≡ value
    whole = omega arith

-- the only range of a list takes the whole value
pub only_range : (ranges : List (ℕ × ℕ)) (word value : ℕ) → 1 ≤ length ranges → length ranges < 2 → value < 2 ^ bits_of ranges → with_range (get_or ranges 0 (0, 0)) word value ≡ with_ranges ranges word value
only_range [] word value some few small = absurd (omega arith)
only_range (r ∷ []) word value some few small =
    let width : bits_of (r ∷ []) ≡ r.0 + 1 - r.1 + 0 = bits_cons r [] in
    let same : bits_of (r ∷ []) ≡ r.0 + 1 - r.1 = omega arith in
    sym (one_range r word value (subst (λ n. value < 2 ^ n) same small))
only_range (r ∷ s ∷ ranges) word value some few small = absurd (omega arith)

-- a word of a description has at most 64 bits
pub word_64 : (d : Parts) (word : ℕ) → IsTrue (is_isa d) → word < 2 ^ d.word → word < 2 ^ 64
word_64 d word h small =
    let most : 2 ^ d.word ≤ 2 ^ 64 = pow-le-pow_right two_positive (word_most d h) in
    omega arith
  where
    two_positive : 0 < 2
    two_positive = omega arith

-- the formula gives a word
pub field_below : (d : Parts) (f : FieldId) (word value : ℕ) → IsTrue (is_isa d) → has_field d f ≡ true → word < 2 ^ d.word → with_ranges (ranges_of d f) word value < 2 ^ d.word
field_below d f word value h has small = ranges_below d.word (ranges_of d f) word value (field_ranges_kept d f h has).within small

-- the formula sets the field
pub sets_field : (d : Parts) (f : FieldId) (word value : BitValue) → IsTrue (is_isa d) → has_field d f ≡ true → value.width ≡ bits_of (ranges_of d f) → value.number < 2 ^ value.width → SetsField d f word value (bit_value word.width (with_ranges (ranges_of d f) word.number value.number))
sets_field d f word value h has wide small =
    let keeps : KeepsRanges d (ranges_of d f) = field_ranges_kept d f h has in
    let number : bits_in (ranges_of d f) (with_ranges (ranges_of d f) word.number value.number) ≡ value.number
    = ranges_read d.word (ranges_of d f) word.number value.number keeps.within keeps.once ∙ ap (λ n. value.number % 2 ^ n) (sym wide) ∙ mod-eq_of_lt small in
    record {
      width = refl;
      reads = ap (λ n. bit_value n (bits_in (ranges_of d f) (with_ranges (ranges_of d f) word.number value.number))) (sym wide) ∙ ap (bit_value value.width) number;
      keeps = λ k out. ranges_keep d.word (ranges_of d f) word.number value.number k keeps.within out;
    }

-- ---- what a word with a field set is

differs : (a b i j : ℕ) → (nat_eq a b && nat_eq i j) ≡ false → a ≡ b → i ≢ j
differs a b i j h e same = absurd (both_ways (nat_eq a b && nat_eq i j) h (and_from (nat_eq a b) (nat_eq i j) (nat_eq-true a b e) (nat_eq-true i j same)))

-- a field of the same format reads as before
pub other_stays : (d : Parts) (f g : FieldId) (word value changed : BitValue) → IsTrue (is_isa d) → IsTrue (has_field d f) → IsTrue (has_field d g) → f.format.0 ≡ g.format.0 → same_field f g ≡ false → SetsField d f word value changed → field_of d g changed.number ≡ field_of d g word.number
other_stays d f g word value changed h has_f has_g format differ sets =
    let apart = fields_apart d g f h has_g has_f (sym format) (λ e. differs f.format.0 g.format.0 f.index g.index differ format (sym e)) in
    ap (bit_value (bits_of (ranges_of d g))) (same_reading (ranges_of d g) changed.number word.number (λ k named. sets.keeps k (apart k named)))

-- different fields of one format share no bit
pub different_apart : (d : Parts) (f g : FieldId) (k : ℕ) → IsTrue (is_isa d) → IsTrue (has_field d f) → IsTrue (has_field d g) → f.format.0 ≡ g.format.0 → same_field f g ≡ false → IsTrue (is_bit_of d f k) → is_bit_of d g k ≡ false
different_apart d f g k h has_f has_g format differ named =
    fields_apart d f g h has_f has_g format (differs f.format.0 g.format.0 f.index g.index differ format) k named

pub same_value : (a b : BitValue) → a.width ≡ b.width → a.number ≡ b.number → a ≡ b
same_value a b w n = ap (λ x. bit_value x a.number) w ∙ ap (bit_value b.width) n

-- at most one word has the field set
pub one_set : (d : Parts) (f : FieldId) (word value a b : BitValue) → SetsField d f word value a → SetsField d f word value b → a ≡ b
one_set d f word value a b p q = same_value a b (p.width ∙ sym q.width) (same_from_bits a.number b.number (λ k. at k (is_bit_of d f k) refl))
  where
    alike : bits_in (ranges_of d f) a.number ≡ bits_in (ranges_of d f) b.number
    alike = ap (λ (v : BitValue). v.number) (p.reads ∙ sym q.reads)

    at : (k : ℕ) (s : Bool) → is_bit_of d f k ≡ s → bit_at a.number k ≡ bit_at b.number k
    at k true e = same_bits (ranges_of d f) a.number b.number alike k e
    at k false e = p.keeps k e ∙ sym (q.keeps k e)

-- setting what a field has changes nothing
pub set_again : (d : Parts) (f : FieldId) (word changed : BitValue) → SetsField d f word (field_of d f word.number) changed → changed ≡ word
set_again d f word changed sets = one_set d f word (field_of d f word.number) changed word sets (record { width = refl; reads = refl; keeps = λ k out. refl })
