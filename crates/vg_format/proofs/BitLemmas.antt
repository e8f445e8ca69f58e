-- The bits of a number, of a range of it, and of a number with a range replaced.
use Rattle.std.proofs.Common.{◌≡◌, ℕ, ◌+◌, ◌*◌, ◌-◌, ◌/◌, ◌%◌, ◌^◌, ◌<◌, ◌≤◌, ◌⊎◌, true, false, bit_and, bit_or, arith, sym, ap, ◌∙◌, subst, inl, inr}
use Rattle.std.specs.Int.{bit_at}
use Rattle.std.proofs.lemmas.Bool.Decides.{nat_tests}
use Rattle.std.proofs.lemmas.Bool.{cases_lt}
use Rattle.std.proofs.lemmas.Nat.{pow_pos, mod_below, shr-shr, shr_split, shr_high, mod_low, shr_below, shl_whole, one_shl, or_shifted, and_mask}
use Rattle.std.proofs.lemmas.Nat.Bits.{bit_at_cat_low, bit_at_cat_high, same_from_bits_below}
use Rattle.vg_bits.proofs.Modular.{joined_below}
use Rattle.vg_isa.specs.Accepted.{names_bit}
use Rattle.vg_format.specs.Replaced.{with_range}

pub bit_at_shr : (n k i : ℕ) → bit_at (n / 2 ^ k) i ≡ bit_at n (k + i)
bit_at_shr n k i = ap (λ m. m % 2) (shr-shr n k i)

pub bit_at_low : (n k i : ℕ) → i < k → bit_at (n % 2 ^ k) i ≡ bit_at n i
bit_at_low n k i h = sym (bit_at_cat_low (n / 2 ^ k) k (n % 2 ^ k) i h) ∙ ap (λ m. bit_at m i) (shr_split n k)

-- the number in a range of bits
abbrev pub slice_of : ℕ × ℕ → ℕ → ℕ
slice_of r word = word / 2 ^ r.1 % 2 ^ (r.0 + 1 - r.1)

pub slice_below : (r : ℕ × ℕ) (word : ℕ) → slice_of r word < 2 ^ (r.0 + 1 - r.1)
slice_below r word = mod_below (word / 2 ^ r.1) (2 ^ (r.0 + 1 - r.1)) (pow_pos (r.0 + 1 - r.1))

bit_at_slice : (r : ℕ × ℕ) (word i : ℕ) → i < r.0 + 1 - r.1 → bit_at (slice_of r word) i ≡ bit_at word (r.1 + i)
bit_at_slice r word i h = bit_at_low (word / 2 ^ r.1) (r.0 + 1 - r.1) i h ∙ bit_at_shr word r.1 i

is_named : (r : ℕ × ℕ) (i : ℕ) → i < r.0 + 1 - r.1 → names_bit (r.1 + i) r ≡ true
is_named r i h = grind (arith, nat_tests)

named_low : (r : ℕ × ℕ) (k : ℕ) → names_bit k r ≡ true → r.1 ≤ k
named_low r k h = grind (arith, nat_tests)

pub named_high : (r : ℕ × ℕ) (k : ℕ) → names_bit k r ≡ true → k ≤ r.0
named_high r k h = grind (arith, nat_tests)

unnamed : (r : ℕ × ℕ) (k : ℕ) → names_bit k r ≡ false → r.1 ≤ k → r.0 < k
unnamed r k h low = grind (arith, nat_tests)

-- numbers with the same bits in a range have the same number there
pub same_slice : (r : ℕ × ℕ) (a b : ℕ) → ((k : ℕ) → names_bit k r ≡ true → bit_at a k ≡ bit_at b k) → slice_of r a ≡ slice_of r b
same_slice r a b same =
    same_from_bits_below (r.0 + 1 - r.1) (slice_of r a) (slice_of r b) (slice_below r a) (slice_below r b)
    (λ i h. bit_at_slice r a i h ∙ same (r.1 + i) (is_named r i h) ∙ sym (bit_at_slice r b i h))

-- and the other way round
pub same_bit : (r : ℕ × ℕ) (a b : ℕ) → slice_of r a ≡ slice_of r b → (k : ℕ) → names_bit k r ≡ true → bit_at a k ≡ bit_at b k
same_bit r a b e k named =
    let low : r.1 ≤ k = named_low r k named in
    let high : k ≤ r.0 = named_high r k named in
    let within : k - r.1 < r.0 + 1 - r.1 = omega arith in
    let place : r.1 + (k - r.1) ≡ k = omega arith in
    ap (bit_at a) (sym place) ∙ sym (bit_at_slice r a (k - r.1) within) ∙ ap (λ n. bit_at n (k - r.1)) e
    ∙ bit_at_slice r b (k - r.1) within ∙ ap (bit_at b) place

-- ---- a range replaced

pub range_reads : (r : ℕ × ℕ) (word bits : ℕ) → bits < 2 ^ (r.0 + 1 - r.1) → slice_of r (with_range r word bits) ≡ bits
range_reads r word bits h =
    ap (λ n. n % 2 ^ (r.0 + 1 - r.1)) (shr_high (word / 2 ^ (r.0 + 1) * 2 ^ (r.0 + 1 - r.1) + bits) r.1 (word % 2 ^ r.1) (mod_below word (2 ^ r.1) (pow_pos r.1)))
    ∙ mod_low (word / 2 ^ (r.0 + 1)) (r.0 + 1 - r.1) bits h

range_keeps_low : (r : ℕ × ℕ) (word bits k : ℕ) → k < r.1 → bit_at (with_range r word bits) k ≡ bit_at word k
range_keeps_low r word bits k h = bit_at_cat_low (word / 2 ^ (r.0 + 1) * 2 ^ (r.0 + 1 - r.1) + bits) r.1 (word % 2 ^ r.1) k h ∙ bit_at_low word r.1 k h

range_keeps_high : (r : ℕ × ℕ) (word bits k : ℕ) → r.1 ≤ r.0 → bits < 2 ^ (r.0 + 1 - r.1) → r.0 < k → bit_at (with_range r word bits) k ≡ bit_at word k
range_keeps_high r word bits k down h above =
    let low : r.1 ≤ k = omega arith in
    let high : r.0 + 1 - r.1 ≤ k - r.1 = omega arith in
    let place : r.0 + 1 + (k - r.1 - (r.0 + 1 - r.1)) ≡ k = omega arith in
    bit_at_cat_high (word / 2 ^ (r.0 + 1) * 2 ^ (r.0 + 1 - r.1) + bits) r.1 (word % 2 ^ r.1) k (mod_below word (2 ^ r.1) (pow_pos r.1)) low
    ∙ bit_at_cat_high (word / 2 ^ (r.0 + 1)) (r.0 + 1 - r.1) bits (k - r.1) h high
    ∙ bit_at_shr word (r.0 + 1) (k - r.1 - (r.0 + 1 - r.1))
    ∙ ap (bit_at word) place

pub range_keeps : (r : ℕ × ℕ) (word bits k : ℕ) → r.1 ≤ r.0 → bits < 2 ^ (r.0 + 1 - r.1) → names_bit k r ≡ false → bit_at (with_range r word bits) k ≡ bit_at word k
range_keeps r word bits k down h out = at (cases_lt k r.1)
  where
    at : (k < r.1) ⊎ (r.1 ≤ k) → bit_at (with_range r word bits) k ≡ bit_at word k
    at (inl below) = range_keeps_low r word bits k below
    at (inr low) = range_keeps_high r word bits k down h (unnamed r k out low)

pub range_below : (r : ℕ × ℕ) (word bits n : ℕ) → r.1 ≤ r.0 → r.0 < n → bits < 2 ^ (r.0 + 1 - r.1) → word < 2 ^ n → with_range r word bits < 2 ^ n
range_below r word bits n down within h w =
    let whole : n ≡ n - (r.0 + 1) + (r.0 + 1) = omega arith in
    let upper : word / 2 ^ (r.0 + 1) < 2 ^ (n - (r.0 + 1)) = shr_below word (n - (r.0 + 1)) (r.0 + 1) (subst (λ m. word < 2 ^ m) whole w) in
    let joined : (word / 2 ^ (r.0 + 1) * 2 ^ (r.0 + 1 - r.1) + bits) < 2 ^ (n - (r.0 + 1) + (r.0 + 1 - r.1)) = joined_below (n - (r.0 + 1)) (r.0 + 1 - r.1) (word / 2 ^ (r.0 + 1)) bits upper h in
    let all : with_range r word bits < 2 ^ (n - (r.0 + 1) + (r.0 + 1 - r.1) + r.1)
    = joined_below (n - (r.0 + 1) + (r.0 + 1 - r.1)) r.1 (word / 2 ^ (r.0 + 1) * 2 ^ (r.0 + 1 - r.1) + bits) (word % 2 ^ r.1) joined (mod_below word (2 ^ r.1) (pow_pos r.1)) in
    let sum : n - (r.0 + 1) + (r.0 + 1 - r.1) + r.1 ≡ n = omega arith in
    subst (λ m. with_range r word bits < 2 ^ m) sum all

-- ---- what the code computes

-- a range replaced, by shifts and masks of 128 bits
pub range_code : (word high low bits : ℕ) → low ≤ high → high < 64 → word < 2 ^ 64 → bits < 2 ^ (high + 1 - low)
    → bit_or (bit_or (word / 2 ^ (high + 1) * 2 ^ (high + 1 - low) % 2 ^ 128) bits * 2 ^ low % 2 ^ 128) (bit_and word (1 * 2 ^ low % 2 ^ 128 - 1)) ≡ with_range (high, low) word bits
range_code word high low bits down within w h =
    let above = word / 2 ^ (high + 1) in
    let whole : 64 ≡ 64 - (high + 1) + (high + 1) = omega arith in
    let few : above < 2 ^ (64 - (high + 1)) = shr_below word (64 - (high + 1)) (high + 1) (subst (λ m. word < 2 ^ m) whole w) in
    let joined : above * 2 ^ (high + 1 - low) + bits < 2 ^ (64 - (high + 1) + (high + 1 - low)) = joined_below (64 - (high + 1)) (high + 1 - low) above bits few h in
    let first : above * 2 ^ (high + 1 - low) % 2 ^ 128 ≡ above * 2 ^ (high + 1 - low) = shl_whole above (64 - (high + 1)) (high + 1 - low) 128 few (omega arith) in
    let second : bit_or (above * 2 ^ (high + 1 - low)) bits ≡ above * 2 ^ (high + 1 - low) + bits = or_shifted above (high + 1 - low) bits h in
    let third : (above * 2 ^ (high + 1 - low) + bits) * 2 ^ low % 2 ^ 128 ≡ (above * 2 ^ (high + 1 - low) + bits) * 2 ^ low
    = shl_whole (above * 2 ^ (high + 1 - low) + bits) (64 - (high + 1) + (high + 1 - low)) low 128 joined (omega arith) in
    let mask : 1 * 2 ^ low % 2 ^ 128 ≡ 2 ^ low = one_shl low 128 (omega arith) in
    let below : bit_and word (2 ^ low - 1) ≡ word % 2 ^ low = and_mask word low in
    let last : bit_or ((above * 2 ^ (high + 1 - low) + bits) * 2 ^ low) (word % 2 ^ low) ≡ (above * 2 ^ (high + 1 - low) + bits) * 2 ^ low + word % 2 ^ low
    = or_shifted (above * 2 ^ (high + 1 - low) + bits) low (word % 2 ^ low) (mod_below word (2 ^ low) (pow_pos low)) in
    rw (first, second, third, mask, below) last
