-- Replacing the bits of ranges one by one.
use Rattle.std.proofs.Common.{◌≡◌, ℕ, ◌+◌, ◌-◌, ◌/◌, ◌%◌, ◌^◌, ◌<◌, ◌≤◌, true, List, ◌∷◌, arith, sym, ap, ◌∙◌, subst}
use Rattle.vg_bits.specs.BitValue.{BitValue}
use Rattle.vg_bits.specs.BitValue as bits
use Rattle.vg_isa.specs.Declaration.{are_in_word, bits_of}
use Rattle.vg_format.specs.Replaced.{with_range, with_ranges}
use Rattle.vg_format.proofs.BitLemmas.{range_below}
use Rattle.vg_format.proofs.RangeLemmas.{runs_down, lies_within, rest_within, bits_cons, part_below}

-- what is left to do of a word with ranges replaced: these ranges, by so many bits of the value
pub record Remains (ranges : List (ℕ × ℕ)) (word left : ℕ) (value : BitValue) (whole : ℕ) : Type 0 where
  pub left_is : left ≡ bits_of ranges
  pub most : left ≤ value.width
  pub within : are_in_word 64 ranges ≡ true
  pub small : word < 2 ^ 64
  pub same : with_ranges ranges word value.number ≡ whole

module _ (r : ℕ × ℕ) (ranges : List (ℕ × ℕ)) (word left : ℕ) (value : BitValue) (whole : ℕ) (h : Remains (r ∷ ranges) word left value whole) where
  -- the bits that are left below the first range
  pub below_is : left ≡ r.0 + 1 - r.1 + bits_of ranges
  below_is = h.left_is ∙ bits_cons r ranges

  pub down : r.1 ≤ r.0
  down = runs_down 64 r ranges h.within

  pub high : r.0 < 64
  high = lies_within 64 r ranges h.within

  -- the bits of the first range
  pub part_is : (part : BitValue) → part ≡ bits.slice value (left - 1) (left - (r.0 + 1 - r.1)) → part.number ≡ value.number / 2 ^ bits_of ranges % 2 ^ (r.0 + 1 - r.1)
  part_is part e =
      let count : left ≡ r.0 + 1 - r.1 + bits_of ranges = below_is in
      let order : r.1 ≤ r.0 = down in
      let low : left - (r.0 + 1 - r.1) ≡ bits_of ranges = omega arith in
      let wide : left - 1 + 1 - (left - (r.0 + 1 - r.1)) ≡ r.0 + 1 - r.1 = omega arith in
      ap (λ (v : BitValue). v.number) e
      ∙ ap (λ n. value.number / 2 ^ n % 2 ^ (left - 1 + 1 - (left - (r.0 + 1 - r.1)))) low
      ∙ ap (λ n. value.number / 2 ^ bits_of ranges % 2 ^ n) wide

  pub next_remains : (next : ℕ) → next ≡ with_range r word (value.number / 2 ^ bits_of ranges % 2 ^ (r.0 + 1 - r.1)) → Remains ranges next (left - (r.0 + 1 - r.1)) value whole
  next_remains next e =
      let count : left ≡ r.0 + 1 - r.1 + bits_of ranges = below_is in
      let most : left ≤ value.width = h.most in
      record {
        left_is = omega arith;
        most = omega arith;
        within = rest_within 64 r ranges h.within;
        small = subst (λ n. n < 2 ^ 64) (sym e)
            (range_below r word (value.number / 2 ^ bits_of ranges % 2 ^ (r.0 + 1 - r.1)) 64 down high (part_below r ranges value.number) h.small);
        same = ap (λ n. with_ranges ranges n value.number) e ∙ h.same;
      }
