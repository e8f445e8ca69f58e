-- Masks, and the pattern of an instruction.
use Rattle.std.proofs.Common.{◌≡◌, ℕ, ◌+◌, ◌*◌, ◌-◌, ◌/◌, ◌%◌, ◌^◌, ◌<◌, ◌≤◌, ◌⊎◌, Bool, true, false, ◌&&◌, ◌||◌, cond, IsTrue, nat_eq, nat_le, min, max, bit_and, bit_or, List, [], ◌∷◌, arith, refl, sym, ap, ◌∙◌, inl, inr}
use Rattle.std.specs.Int.{bit_at}
use Rattle.std.specs.List.{list_all}
use Rattle.std.proofs.lemmas.Bool.Decides.{nat_tests}
use Rattle.std.proofs.lemmas.Bool.{cases_lt, both_ways, false_from_ne_true, and_parts}
use Rattle.std.proofs.lemmas.Nat.{pow_pos, mod_below, shr_split, shl_whole}
use Rattle.std.proofs.lemmas.Nat.Bits.{bit_at_and, bit_at_or, bit_at-lt, bit_at-zero, bit_at_ones, bit_at_ones_above, bit_at_cat_low, bit_at_cat_high, ones_shr, same_from_bits}
use Rattle.vg_isa.specs.declared.isa.Parts.{Parts}
use Rattle.vg_isa.specs.declared.ids.FieldId.{FieldId}
use Rattle.vg_isa.specs.declared.ids.FormatId.{FormatId}
use Rattle.vg_isa.specs.declared.instr.Instr.{Instr}
use Rattle.vg_bits.specs.BitValue.{BitValue}
use Rattle.vg_isa.specs.Declaration.{ranges_of}
use Rattle.vg_isa.specs.Same.{all_differ, same_field}
use Rattle.vg_isa.specs.Accepted.{names_bit, is_fixed, is_instr, is_isa}
use Rattle.vg_isa.proofs.Kept.{fixed_kept, kept_instr}
use Rattle.vg_isa.proofs.Tests.{true-nat_eq, nat_eq-true}
use Rattle.vg_format.specs.Replaced.{with_fields}
use Rattle.vg_format.specs.Setting.{is_bit_of}
use Rattle.vg_format.specs.Matching.{matches}
use Rattle.vg_format.specs.Encoding.{have_values, is_bit_of_any}
use Rattle.vg_format.specs.Pattern.{HasOnes, IsPatternOf}
use Rattle.vg_format.proofs.BitLemmas.{bit_at_shr}
use Rattle.vg_format.proofs.Apart.{KeepsRanges, field_ranges_kept, above_none}
use Rattle.vg_format.proofs.EncodingLemmas.{KeepsGiven, given_kept, fields_keep, fields_have, values_agree, values_carry}

-- ---- masks

-- a run of ones, as the code makes it
run_of_ones : (n low k : ℕ) → bit_at ((2 ^ n - 1) * 2 ^ low) k ≡ cond (nat_le low k && nat_le (k + 1) (n + low)) 1 0
run_of_ones n low k = at (cases_lt k low)
  where
    sum : (2 ^ n - 1) * 2 ^ low ≡ (2 ^ n - 1) * 2 ^ low + 0
    sum = omega arith

    inside : k - low < n → low ≤ k → bit_at (2 ^ n - 1) (k - low) ≡ cond (nat_le low k && nat_le (k + 1) (n + low)) 1 0
    inside within reached =
        let test : (nat_le low k && nat_le (k + 1) (n + low)) ≡ true = grind (arith, nat_tests) in
        bit_at_ones n (k - low) within ∙ ap (λ b. cond b 1 0) (sym test)

    outside : n ≤ k - low → low ≤ k → bit_at (2 ^ n - 1) (k - low) ≡ cond (nat_le low k && nat_le (k + 1) (n + low)) 1 0
    outside above reached =
        let test : (nat_le low k && nat_le (k + 1) (n + low)) ≡ false = grind (arith, nat_tests) in
        bit_at_ones_above n (k - low) above ∙ ap (λ b. cond b 1 0) (sym test)

    reached_at : low ≤ k → (k - low < n) ⊎ (n ≤ k - low) → bit_at (2 ^ n - 1) (k - low) ≡ cond (nat_le low k && nat_le (k + 1) (n + low)) 1 0
    reached_at reached (inl within) = inside within reached
    reached_at reached (inr above) = outside above reached

    at : (k < low) ⊎ (low ≤ k) → bit_at ((2 ^ n - 1) * 2 ^ low) k ≡ cond (nat_le low k && nat_le (k + 1) (n + low)) 1 0
    at (inl below) =
        let test : (nat_le low k && nat_le (k + 1) (n + low)) ≡ false = grind (arith, nat_tests) in
        ap (λ m. bit_at m k) sum ∙ bit_at_cat_low (2 ^ n - 1) low 0 k below ∙ bit_at-zero k ∙ ap (λ b. cond b 1 0) (sym test)
    at (inr reached) =
        ap (λ m. bit_at m k) sum ∙ bit_at_cat_high (2 ^ n - 1) low 0 k (pow_pos low) reached ∙ reached_at reached (cases_lt (k - low) n)

-- the mask of a range, as the code makes it
pub range_ones : (high low : ℕ) → low ≤ high → high < 64 → HasOnes (λ k. names_bit k (high, low)) ((2 ^ 64 - 1) / 2 ^ (63 - (high - low)) * 2 ^ low % 2 ^ 64)
range_ones high low order within k =
    let count : 64 - (63 - (high - low)) ≡ high - low + 1 = omega arith in
    let run : (2 ^ 64 - 1) / 2 ^ (63 - (high - low)) ≡ 2 ^ (high - low + 1) - 1 = ones_shr 64 (63 - (high - low)) (omega arith) ∙ ap (λ n. 2 ^ n - 1) count in
    let some : 0 < 2 ^ (high - low + 1) = pow_pos (high - low + 1) in
    let whole : (2 ^ (high - low + 1) - 1) * 2 ^ low % 2 ^ 64 ≡ (2 ^ (high - low + 1) - 1) * 2 ^ low = shl_whole (2 ^ (high - low + 1) - 1) (high - low + 1) low 64 (omega arith) (omega arith) in
    let test : (nat_le low k && nat_le (k + 1) (high - low + 1 + low)) ≡ names_bit k (high, low) = same_test in
    ap (λ m. bit_at (m * 2 ^ low % 2 ^ 64) k) run ∙ ap (λ m. bit_at m k) whole ∙ run_of_ones (high - low + 1) low k ∙ ap (λ b. cond b 1 0) test
  where
    same_test : (nat_le low k && nat_le (k + 1) (high - low + 1 + low)) ≡ (nat_le low k && nat_le k high)
    same_test = grind (arith, nat_tests)

larger : (a b : Bool) → max (cond a 1 0) (cond b 1 0) ≡ cond (a || b) 1 0
larger true true = refl
larger true false = refl
larger false true = refl
larger false false = refl

-- two masks together
pub ones_or : (p q : ℕ → Bool) (a b : ℕ) → HasOnes p a → HasOnes q b → HasOnes (λ k. p k || q k) (bit_or a b)
ones_or p q a b has_a has_b k = bit_at_or a b k ∙ ap (λ m. max m (bit_at b k)) (has_a k) ∙ ap (max (cond (p k) 1 0)) (has_b k) ∙ larger (p k) (q k)

pub no_ones : (p : ℕ → Bool) → ((k : ℕ) → p k ≡ false) → HasOnes p 0
no_ones p none k = bit_at-zero k ∙ ap (λ b. cond b 1 0) (sym (none k))

pub ones_like : (p q : ℕ → Bool) (a : ℕ) → ((k : ℕ) → p k ≡ q k) → HasOnes p a → HasOnes q a
ones_like p q a same has k = has k ∙ ap (λ b. cond b 1 0) (same k)

-- a number without bits from a place on
below_from_bits : (n w : ℕ) → ((k : ℕ) → w ≤ k → bit_at n k ≡ 0) → n < 2 ^ w
below_from_bits n w none =
    let zero : n / 2 ^ w ≡ 0 = same_from_bits (n / 2 ^ w) 0 (λ i. bit_at_shr n w i ∙ none (w + i) (omega arith) ∙ sym (bit_at-zero i)) in
    let split : n / 2 ^ w * 2 ^ w + n % 2 ^ w ≡ n = shr_split n w in
    let low : 0 * 2 ^ w + n % 2 ^ w ≡ n = rw zero at split in
    let small : n % 2 ^ w < 2 ^ w = mod_below n (2 ^ w) (pow_pos w) in
    omega arith

-- ---- patterns

-- no bit from the width of the words on is one of a field
fixed_none : (d : Parts) → IsTrue (is_isa d) → (format : FormatId) (fields : List (FieldId × BitValue)) (k : ℕ) → list_all (is_fixed d format) fields ≡ true → d.word ≤ k → is_bit_of_any d fields k ≡ false
fixed_none d h format [] k all above = refl
fixed_none d h format (give ∷ fields) k all above =
    let parts = and_parts (is_fixed d format give) (list_all (is_fixed d format) fields) all in
    let kept : KeepsGiven d format give = given_kept d format give parts.0 in
    let ranges : KeepsRanges d (ranges_of d give.0) = field_ranges_kept d give.0 h kept.has in
    let here : is_bit_of d give.0 k ≡ false = above_none d.word (ranges_of d give.0) k ranges.within above in
    let later : is_bit_of_any d fields k ≡ false = fixed_none d h format fields k parts.1 above in
    rw (here, later) refl

module _ (d : Parts) (h : IsTrue (is_isa d)) (instr : Instr) (accepted : IsTrue (is_instr d instr)) where
  fixed_all : list_all (is_fixed d instr.format) instr.fixed ≡ true
  fixed_all = fixed_kept d instr accepted

  fixed_differ : all_differ (λ (f g : FieldId × BitValue). same_field f.0 g.0) instr.fixed ≡ true
  fixed_differ = (and_parts _ _ (kept_instr d instr accepted).fixed).1

  abbrev value_of_fixed : ℕ
  value_of_fixed = with_fields d instr.fixed 0

  value_has : have_values d value_of_fixed instr.fixed ≡ true
  value_has = fields_have d h instr.format instr.fixed 0 fixed_all fixed_differ

  -- a bit that isn't fixed is 0 in the value
  value_rest : (k : ℕ) → is_bit_of_any d instr.fixed k ≡ false → bit_at value_of_fixed k ≡ 0
  value_rest k out = fields_keep d h instr.format instr.fixed 0 k fixed_all out ∙ bit_at-zero k

  module _ (mask : ℕ) (ones : HasOnes (is_bit_of_any d instr.fixed) mask) where
    at_ones : (word k : ℕ) → is_bit_of_any d instr.fixed k ≡ true → bit_at (bit_and word mask) k ≡ bit_at word k
    at_ones word k e =
        let one : bit_at mask k ≡ 1 = ones k ∙ ap (λ b. cond b 1 0) e in
        let both : bit_at (bit_and word mask) k ≡ min (bit_at word k) (bit_at mask k) = bit_at_and word mask k in
        let small : bit_at word k < 2 = bit_at-lt word k in
        omega arith

    at_others : (word k : ℕ) → is_bit_of_any d instr.fixed k ≡ false → bit_at (bit_and word mask) k ≡ 0
    at_others word k e =
        let none : bit_at mask k ≡ 0 = ones k ∙ ap (λ b. cond b 1 0) e in
        let both : bit_at (bit_and word mask) k ≡ min (bit_at word k) (bit_at mask k) = bit_at_and word mask k in
        omega arith

    -- a word that matches fits
    match_fits : (word : ℕ) → matches d word instr ≡ true → bit_and word mask ≡ value_of_fixed
    match_fits word e = same_from_bits (bit_and word mask) value_of_fixed (λ k. at k (is_bit_of_any d instr.fixed k) refl)
      where
        at : (k : ℕ) (s : Bool) → is_bit_of_any d instr.fixed k ≡ s → bit_at (bit_and word mask) k ≡ bit_at value_of_fixed k
        at k true named = at_ones word k named ∙ values_agree d instr.fixed word value_of_fixed k e value_has named
        at k false named = at_others word k named ∙ sym (value_rest k named)

    -- a word that fits matches
    fit_matches : (word : ℕ) → bit_and word mask ≡ value_of_fixed → matches d word instr ≡ true
    fit_matches word e =
        values_carry d instr.fixed value_of_fixed word value_has
        (λ k named. ap (λ n. bit_at n k) (sym e) ∙ at_ones word k named)

    tells_at : (word : ℕ) (s : Bool) → matches d word instr ≡ s → s ≡ nat_eq (bit_and word mask) value_of_fixed
    tells_at word true e = sym (nat_eq-true _ _ (match_fits word e))
    tells_at word false e = sym (false_from_ne_true _ (λ fit. both_ways _ e (fit_matches word (true-nat_eq _ _ fit))))

    pub is_pattern : IsPatternOf d instr (record { mask = mask; value = value_of_fixed })
    is_pattern = record {
      tells = λ word. tells_at word (matches d word instr) refl;
      mask = below_from_bits mask d.word (λ k above. ones k ∙ ap (λ b. cond b 1 0) (fixed_none d h instr.format instr.fixed k fixed_all above));
      value = match_fits value_of_fixed value_has;
    }
