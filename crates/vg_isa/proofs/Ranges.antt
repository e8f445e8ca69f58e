-- Joining the bits of ranges one by one.
use Rattle.std.proofs.Common.{◌≡◌, ℕ, ◌+◌, ◌*◌, ◌-◌, ◌/◌, ◌%◌, ◌^◌, List, ◌∷◌, arith, ap, ◌∙◌}
use Rattle.vg_bits.specs.BitValue.{BitValue}
use Rattle.vg_bits.specs.BitValue as bits
use Rattle.vg_isa.specs.Declaration.{bits_of, bits_in}
use Rattle.std.proofs.lemmas.Nat.{pow-add}
use Rattle.std.proofs.lemmas.List.Sums.{sum_by-cons}

-- x stands below b, and rest below both
join_number : (b x k m rest : ℕ) → (b * 2 ^ k + x) * 2 ^ m + rest ≡ b * 2 ^ (k + m) + (x * 2 ^ m + rest)
join_number b x k m rest = let e : 2 ^ (k + m) ≡ 2 ^ k * 2 ^ m = pow-add 2 k m in rw e (omega arith)

-- what one more range below leaves of the whole
pub record IsJoined (next : BitValue) (ranges : List (ℕ × ℕ)) (word all_width all_number : ℕ) : Type 0 where
  pub width : next.width + bits_of ranges ≡ all_width
  pub number : next.number * 2 ^ bits_of ranges + bits_in ranges word ≡ all_number

pub join_more : (joined next word : BitValue) (r : ℕ × ℕ) (ranges : List (ℕ × ℕ)) (width number : ℕ) → next ≡ bits.join joined (bits.slice word r.0 r.1) → IsJoined joined (r ∷ ranges) word.number width number → IsJoined next ranges word.number width number
join_more joined next word r ranges width number is h =
    let ew : next.width ≡ joined.width + (r.0 + 1 - r.1) = ap (λ (v : BitValue). v.width) is in
    let en : next.number ≡ joined.number * 2 ^ (r.0 + 1 - r.1) + word.number / 2 ^ r.1 % 2 ^ (r.0 + 1 - r.1) = ap (λ (v : BitValue). v.number) is in
    let cons : bits_of (r ∷ ranges) ≡ (r.0 + 1 - r.1) + bits_of ranges = sum_by-cons _ r ranges in
    let hw : joined.width + ((r.0 + 1 - r.1) + bits_of ranges) ≡ width = rw cons at h.width in
    let hn : joined.number * 2 ^ ((r.0 + 1 - r.1) + bits_of ranges) + bits_in (r ∷ ranges) word.number ≡ number = rw cons at h.number in
    record {
      width = omega arith;
      number = rw en (join_number joined.number _ _ _ _ ∙ hn);
    }
