-- Reading ranges of a word, and a word with ranges replaced.
use Rattle.std.proofs.Common.{◌≡◌, ℕ, ◌+◌, ◌*◌, ◌-◌, ◌/◌, ◌%◌, ◌^◌, ◌<◌, ◌≤◌, ◌⊎◌, Bool, true, false, ◌&&◌, cond, nat_le, nat_lt, List, [], ◌∷◌, arith, refl, sym, ap, ◌∙◌, inl, inr}
use Rattle.std.specs.Int.{bit_at}
use Rattle.std.specs.List.{count_by, list_any}
use Rattle.std.proofs.lemmas.Bool.Decides.{nat_tests}
use Rattle.std.proofs.lemmas.Bool.{and_parts, or_parts, or_cases, or_left, or_right}
use Rattle.std.proofs.lemmas.Nat.{pow_pos, mod_below, mod-pow-add, same_from_place}
use Rattle.std.proofs.lemmas.List.Sums.{sum_by-cons}
use Rattle.vg_bits.proofs.Modular.{joined_below}
use Rattle.vg_isa.specs.Declaration.{bits_of, bits_in, are_in_word}
use Rattle.vg_isa.specs.Accepted.{names_bit}
use Rattle.vg_format.specs.Replaced.{with_range, with_ranges}
use Rattle.vg_format.proofs.BitLemmas.{slice_of, slice_below, same_slice, same_bit, range_reads, range_keeps, range_below}

-- each bit stands in one of the ranges at most
abbrev pub Once : List (ℕ × ℕ) → Type 0
Once ranges = (k : ℕ) → count_by (names_bit k) ranges ≤ 1

pub runs_down : (word : ℕ) (r : ℕ × ℕ) (ranges : List (ℕ × ℕ)) → are_in_word word (r ∷ ranges) ≡ true → r.1 ≤ r.0
runs_down word r ranges h =
    let here : (nat_le r.1 r.0 && nat_lt r.0 word) ≡ true = (and_parts (nat_le r.1 r.0 && nat_lt r.0 word) (are_in_word word ranges) h).0 in
    grind (arith, nat_tests)

pub lies_within : (word : ℕ) (r : ℕ × ℕ) (ranges : List (ℕ × ℕ)) → are_in_word word (r ∷ ranges) ≡ true → r.0 < word
lies_within word r ranges h =
    let here : (nat_le r.1 r.0 && nat_lt r.0 word) ≡ true = (and_parts (nat_le r.1 r.0 && nat_lt r.0 word) (are_in_word word ranges) h).0 in
    grind (arith, nat_tests)

pub rest_within : (word : ℕ) (r : ℕ × ℕ) (ranges : List (ℕ × ℕ)) → are_in_word word (r ∷ ranges) ≡ true → are_in_word word ranges ≡ true
rest_within word r ranges h = (and_parts (nat_le r.1 r.0 && nat_lt r.0 word) (are_in_word word ranges) h).1

pub bits_cons : (r : ℕ × ℕ) (ranges : List (ℕ × ℕ)) → bits_of (r ∷ ranges) ≡ r.0 + 1 - r.1 + bits_of ranges
bits_cons r ranges = sum_by-cons (λ (x : ℕ × ℕ). x.0 + 1 - x.1) r ranges

count_cons : (k : ℕ) (r : ℕ × ℕ) (ranges : List (ℕ × ℕ)) → count_by (names_bit k) (r ∷ ranges) ≡ cond (names_bit k r) 1 0 + count_by (names_bit k) ranges
count_cons k r ranges = sum_by-cons (λ (x : ℕ × ℕ). cond (names_bit k x) 1 0) r ranges

counted : (k : ℕ) (r : ℕ × ℕ) (ranges : List (ℕ × ℕ)) (b : Bool) → names_bit k r ≡ b → count_by (names_bit k) (r ∷ ranges) ≡ cond b 1 0 + count_by (names_bit k) ranges
counted k r ranges b e = count_cons k r ranges ∙ ap (λ c. cond c 1 0 + count_by (names_bit k) ranges) e

-- a bit that no range counts stands in none
pub none_counted : (k : ℕ) (ranges : List (ℕ × ℕ)) → count_by (names_bit k) ranges ≡ 0 → list_any (names_bit k) ranges ≡ false
none_counted k [] h = refl
none_counted k (r ∷ ranges) h = at (names_bit k r) refl (none_counted k ranges)
  where
    at : (b : Bool) → names_bit k r ≡ b → (count_by (names_bit k) ranges ≡ 0 → list_any (names_bit k) ranges ≡ false) → list_any (names_bit k) (r ∷ ranges) ≡ false
    at true e later =
        let sum : count_by (names_bit k) (r ∷ ranges) ≡ 1 + count_by (names_bit k) ranges = counted k r ranges true e in
        absurd (omega arith)
    at false e later =
        let sum : count_by (names_bit k) (r ∷ ranges) ≡ 0 + count_by (names_bit k) ranges = counted k r ranges false e in
        let rest : list_any (names_bit k) ranges ≡ false = later (omega arith) in
        rw (e, rest) refl

-- a bit that stands in a range is counted
pub some_counted : (k : ℕ) (ranges : List (ℕ × ℕ)) → list_any (names_bit k) ranges ≡ true → 1 ≤ count_by (names_bit k) ranges
some_counted k [] h = cc
some_counted k (r ∷ ranges) h = at (names_bit k r) refl (some_counted k ranges)
  where
    at : (b : Bool) → names_bit k r ≡ b → (list_any (names_bit k) ranges ≡ true → 1 ≤ count_by (names_bit k) ranges) → 1 ≤ count_by (names_bit k) (r ∷ ranges)
    at true e later =
        let sum : count_by (names_bit k) (r ∷ ranges) ≡ 1 + count_by (names_bit k) ranges = counted k r ranges true e in
        omega arith
    at false e later =
        let sum : count_by (names_bit k) (r ∷ ranges) ≡ 0 + count_by (names_bit k) ranges = counted k r ranges false e in
        let rest : 1 ≤ count_by (names_bit k) ranges = later (rw e at h) in
        omega arith

-- a bit that stands in no range isn't counted
pub unlisted : (k : ℕ) (ranges : List (ℕ × ℕ)) → list_any (names_bit k) ranges ≡ false → count_by (names_bit k) ranges ≡ 0
unlisted k [] h = refl
unlisted k (r ∷ ranges) h =
    let parts = or_parts (names_bit k r) (list_any (names_bit k) ranges) h in
    let sum : count_by (names_bit k) (r ∷ ranges) ≡ 0 + count_by (names_bit k) ranges = counted k r ranges false parts.0 in
    let rest : count_by (names_bit k) ranges ≡ 0 = unlisted k ranges parts.1 in
    omega arith

once_rest : (r : ℕ × ℕ) (ranges : List (ℕ × ℕ)) → Once (r ∷ ranges) → Once ranges
once_rest r ranges once k =
    let all : count_by (names_bit k) (r ∷ ranges) ≤ 1 = once k in
    let sum : count_by (names_bit k) (r ∷ ranges) ≡ cond (names_bit k r) 1 0 + count_by (names_bit k) ranges = count_cons k r ranges in
    omega arith

once_first : (r : ℕ × ℕ) (ranges : List (ℕ × ℕ)) → Once (r ∷ ranges) → (k : ℕ) → names_bit k r ≡ true → list_any (names_bit k) ranges ≡ false
once_first r ranges once k e =
    let all : count_by (names_bit k) (r ∷ ranges) ≤ 1 = once k in
    let sum : count_by (names_bit k) (r ∷ ranges) ≡ 1 + count_by (names_bit k) ranges = counted k r ranges true e in
    none_counted k ranges (omega arith)

-- ---- reading

pub bits_in_below : (ranges : List (ℕ × ℕ)) (word : ℕ) → bits_in ranges word < 2 ^ bits_of ranges
bits_in_below [] word = omega arith
bits_in_below (r ∷ ranges) word =
    rw (bits_cons r ranges) (joined_below (r.0 + 1 - r.1) (bits_of ranges) (slice_of r word) (bits_in ranges word) (slice_below r word) (bits_in_below ranges word))

-- words with the same bits in ranges read alike there
pub same_reading : (ranges : List (ℕ × ℕ)) (a b : ℕ) → ((k : ℕ) → list_any (names_bit k) ranges ≡ true → bit_at a k ≡ bit_at b k) → bits_in ranges a ≡ bits_in ranges b
same_reading [] a b same = refl
same_reading (r ∷ ranges) a b same =
    let first : slice_of r a ≡ slice_of r b = same_slice r a b (λ k e. same k (or_left (names_bit k r) (list_any (names_bit k) ranges) e)) in
    let rest : bits_in ranges a ≡ bits_in ranges b = same_reading ranges a b (λ k e. same k (or_right (names_bit k r) (list_any (names_bit k) ranges) e)) in
    ap (λ n. n * 2 ^ bits_of ranges + bits_in ranges a) first ∙ ap (λ n. slice_of r b * 2 ^ bits_of ranges + n) rest

-- and words that read alike have the same bits there
pub same_bits : (ranges : List (ℕ × ℕ)) (a b : ℕ) → bits_in ranges a ≡ bits_in ranges b → (k : ℕ) → list_any (names_bit k) ranges ≡ true → bit_at a k ≡ bit_at b k
same_bits [] a b e k h = cc
same_bits (r ∷ ranges) a b e k h =
    let parts : (slice_of r a ≡ slice_of r b) × (bits_in ranges a ≡ bits_in ranges b)
    = same_from_place (slice_of r a) (bits_in ranges a) (slice_of r b) (bits_in ranges b) (2 ^ bits_of ranges) (bits_in_below ranges a) (bits_in_below ranges b) e in
    at (same_bit r a b parts.0 k) (same_bits ranges a b parts.1 k) (or_cases (names_bit k r) (list_any (names_bit k) ranges) h)
  where
    at : (names_bit k r ≡ true → bit_at a k ≡ bit_at b k) → (list_any (names_bit k) ranges ≡ true → bit_at a k ≡ bit_at b k) → (names_bit k r ≡ true) ⊎ (list_any (names_bit k) ranges ≡ true) → bit_at a k ≡ bit_at b k
    at first rest (inl here) = first here
    at first rest (inr later) = rest later

-- ---- ranges replaced

pub part_below : (r : ℕ × ℕ) (ranges : List (ℕ × ℕ)) (value : ℕ) → value / 2 ^ bits_of ranges % 2 ^ (r.0 + 1 - r.1) < 2 ^ (r.0 + 1 - r.1)
part_below r ranges value = mod_below (value / 2 ^ bits_of ranges) (2 ^ (r.0 + 1 - r.1)) (pow_pos (r.0 + 1 - r.1))

pub ranges_keep : (word_width : ℕ) (ranges : List (ℕ × ℕ)) (word value k : ℕ) → are_in_word word_width ranges ≡ true → list_any (names_bit k) ranges ≡ false → bit_at (with_ranges ranges word value) k ≡ bit_at word k
ranges_keep n [] word value k within out = refl
ranges_keep n (r ∷ ranges) word value k within out =
    let parts = or_parts (names_bit k r) (list_any (names_bit k) ranges) out in
    ranges_keep n ranges (with_range r word (value / 2 ^ bits_of ranges % 2 ^ (r.0 + 1 - r.1))) value k (rest_within n r ranges within) parts.1
    ∙ range_keeps r word (value / 2 ^ bits_of ranges % 2 ^ (r.0 + 1 - r.1)) k (runs_down n r ranges within) (part_below r ranges value) parts.0

-- a bit from 2 to the power of 0 on is none
no_bits : (value : ℕ) → 0 ≡ value % 2 ^ 0
no_bits value = omega arith

-- the ranges then read as the low bits of the value
pub ranges_read : (word_width : ℕ) (ranges : List (ℕ × ℕ)) (word value : ℕ) → are_in_word word_width ranges ≡ true → Once ranges → bits_in ranges (with_ranges ranges word value) ≡ value % 2 ^ bits_of ranges
ranges_read n [] word value within once = no_bits value
ranges_read n (r ∷ ranges) word value within once =
    let part = value / 2 ^ bits_of ranges % 2 ^ (r.0 + 1 - r.1) in
    let next = with_range r word part in
    let kept : slice_of r (with_ranges ranges next value) ≡ slice_of r next
    = same_slice r (with_ranges ranges next value) next (λ k e. ranges_keep n ranges next value k (rest_within n r ranges within) (once_first r ranges once k e)) in
    let first : slice_of r (with_ranges ranges next value) ≡ part = kept ∙ range_reads r word part (part_below r ranges value) in
    let rest : bits_in ranges (with_ranges ranges next value) ≡ value % 2 ^ bits_of ranges = ranges_read n ranges next value (rest_within n r ranges within) (once_rest r ranges once) in
    ap (λ m. m * 2 ^ bits_of ranges + bits_in ranges (with_ranges ranges next value)) first
    ∙ ap (λ m. part * 2 ^ bits_of ranges + m) rest
    ∙ sym (mod-pow-add value (r.0 + 1 - r.1) (bits_of ranges))
    ∙ ap (λ m. value % 2 ^ m) (sym (bits_cons r ranges))

pub ranges_below : (n : ℕ) (ranges : List (ℕ × ℕ)) (word value : ℕ) → are_in_word n ranges ≡ true → word < 2 ^ n → with_ranges ranges word value < 2 ^ n
ranges_below n [] word value within w = w
ranges_below n (r ∷ ranges) word value within w =
    ranges_below n ranges (with_range r word (value / 2 ^ bits_of ranges % 2 ^ (r.0 + 1 - r.1))) value (rest_within n r ranges within)
    (range_below r word (value / 2 ^ bits_of ranges % 2 ^ (r.0 + 1 - r.1)) n (runs_down n r ranges within) (lies_within n r ranges within) (part_below r ranges value) w)
