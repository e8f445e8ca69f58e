-- Ranges that name each bit of a word once have as many bits as the word.
use Rattle.std.proofs.Common.{◌≡◌, ℕ, zero, suc, ◌+◌, ◌-◌, ◌<◌, ◌≤◌, Bool, true, false, ◌&&◌, IsTrue, nat_eq, nat_le, nat_lt, List, [], ◌∷◌, ◌++◌, length, slice_get, Some, arith, refl, sym, ap, ◌∙◌, subst, cond, flat_map}
use Rattle.std.specs.List.{count_by, range_with_len}
use Rattle.std.proofs.lemmas.Bool.Decides.{nat_tests}
use Rattle.std.proofs.lemmas.List.FromFn.{get_or-range_with_len, length-range_with_len}
use Rattle.std.proofs.lemmas.List.Sums.{sum_by-cons, sum_by-append}
use Rattle.std.proofs.lemmas.Option.{slice_get-get_or}
use Rattle.vg_isa.specs.declared.format.Format.{Format}
use Rattle.vg_isa.specs.declared.format.FieldDecl.{FieldDecl}
use Rattle.vg_isa.specs.Declaration.{bits_of, are_in_word}
use Rattle.vg_isa.specs.Accepted.{names_bit, is_cover, is_format, ranges_in}
use Rattle.vg_isa.proofs.Tests.{both, list_all-slice_get}

-- how often ranges name the bits below n
named : List (ℕ × ℕ) → ℕ → ℕ
named ranges zero = 0
named ranges (suc n) = count_by (names_bit n) ranges + named ranges n

-- the same of one range
once : ℕ × ℕ → ℕ → ℕ
once r zero = 0
once r (suc n) = cond (names_bit n r) 1 0 + once r n

once-below : (r : ℕ × ℕ) (n : ℕ) → n ≤ r.1 → once r n ≡ 0
unfolding once
once-below r zero h = refl
once-below r (suc n) h =
    let before : once r n ≡ 0 = once-below r n (omega arith) in
    let out : names_bit n r ≡ false = grind (arith, nat_tests) in
    rw (out, before) refl

once-within : (r : ℕ × ℕ) (n : ℕ) → r.1 ≤ n → n ≤ r.0 + 1 → once r n ≡ n - r.1
unfolding once
once-within r zero low high = omega arith
once-within r (suc n) low high = at (nat_le r.1 n) refl (λ below. once-within r n below (omega arith))
  where
    at : (b : Bool) → nat_le r.1 n ≡ b → (r.1 ≤ n → once r n ≡ n - r.1) → cond (names_bit n r) 1 0 + once r n ≡ suc n - r.1
    at true e earlier =
        let within : names_bit n r ≡ true = grind (arith, nat_tests) in
        let below : r.1 ≤ n = grind (arith, nat_tests) in
        let before : once r n ≡ n - r.1 = earlier below in
        rw (within, before) (omega arith)
    at false e earlier =
        let out : names_bit n r ≡ false = grind (arith, nat_tests) in
        let above : n < r.1 = grind (arith, nat_tests) in
        let before : once r n ≡ 0 = once-below r n (omega arith) in
        rw (out, before) (omega arith)

once-above : (r : ℕ × ℕ) (n : ℕ) → r.1 ≤ r.0 → r.0 + 1 ≤ n → once r n ≡ r.0 + 1 - r.1
unfolding once
once-above r zero down high = absurd (omega arith)
once-above r (suc n) down high = at (nat_le n r.0) refl (λ above. once-above r n down above)
  where
    at : (b : Bool) → nat_le n r.0 ≡ b → (r.0 + 1 ≤ n → once r n ≡ r.0 + 1 - r.1) → cond (names_bit n r) 1 0 + once r n ≡ r.0 + 1 - r.1
    at true e earlier =
        let last : n ≡ r.0 = grind (arith, nat_tests) in
        let within : names_bit n r ≡ true = grind (arith, nat_tests) in
        let before : once r n ≡ n - r.1 = once-within r n (omega arith) (omega arith) in
        rw (within, before) (omega arith)
    at false e earlier =
        let out : names_bit n r ≡ false = grind (arith, nat_tests) in
        let above : r.0 < n = grind (arith, nat_tests) in
        let before : once r n ≡ r.0 + 1 - r.1 = earlier (omega arith) in
        rw (out, before) (omega arith)

named-none : (n : ℕ) → named [] n ≡ 0
unfolding named
named-none zero = refl
named-none (suc n) = let before : named [] n ≡ 0 = named-none n in omega arith

named-more : (r : ℕ × ℕ) (ranges : List (ℕ × ℕ)) (n : ℕ) → named (r ∷ ranges) n ≡ once r n + named ranges n
unfolding named once
named-more r ranges zero = refl
named-more r ranges (suc n) =
    let here : count_by (names_bit n) (r ∷ ranges) ≡ cond (names_bit n r) 1 0 + count_by (names_bit n) ranges = sum_by-cons (λ x. cond (names_bit n x) 1 0) r ranges in
    rw (here, named-more r ranges n) (omega arith)

-- ranges within a word name as many of its bits as they have
named-all : (word : ℕ) (ranges : List (ℕ × ℕ)) → are_in_word word ranges ≡ true → named ranges word ≡ bits_of ranges
named-all word [] h = named-none word
named-all word (r ∷ ranges) h =
    let split = both (nat_le r.1 r.0 && nat_lt r.0 word) (are_in_word word ranges) h in
    let here : (nat_le r.1 r.0 && nat_lt r.0 word) ≡ true = split.0 in
    let down : r.1 ≤ r.0 = grind (arith, nat_tests) in
    let within : r.0 < word = grind (arith, nat_tests) in
    named-more r ranges word
    ∙ ap (λ n. n + named ranges word) (once-above r word down (omega arith))
    ∙ ap (λ n. r.0 + 1 - r.1 + n) (named-all word ranges split.1)
    ∙ sym (sum_by-cons (λ (x : ℕ × ℕ). x.0 + 1 - x.1) r ranges)

named-each : (ranges : List (ℕ × ℕ)) (n : ℕ) → ((b : ℕ) → b < n → count_by (names_bit b) ranges ≡ 1) → named ranges n ≡ n
unfolding named
named-each ranges zero each = refl
named-each ranges (suc n) each =
    let here : count_by (names_bit n) ranges ≡ 1 = each n (omega arith) in
    let before : named ranges n ≡ n = named-each ranges n (λ b below. each b (omega arith)) in
    rw (here, before) (omega arith)

is_one : (n : ℕ) → nat_eq n 1 ≡ true → n ≡ 1
is_one n h = grind (arith, nat_tests)

-- each bit of a covered word is named once
pub cover_each : (word : ℕ) (ranges : List (ℕ × ℕ)) → IsTrue (is_cover word ranges) → (b : ℕ) → b < word → count_by (names_bit b) ranges ≡ 1
cover_each word ranges h b below =
    let place : b < length (range_with_len 0 word) = subst (λ n. b < n) (sym (length-range_with_len 0 word)) below in
    let at : slice_get (range_with_len 0 word) b ≡ Some b = slice_get-get_or (range_with_len 0 word) b 0 place ∙ ap Some (get_or-range_with_len 0 word b 0 below ∙ omega arith) in
    is_one _ (list_all-slice_get (λ n. nat_eq (count_by (names_bit n) ranges) 1) (range_with_len 0 word) b b h at)

-- the ranges of a format have as many bits as the word
cover_bits : (word : ℕ) (ranges : List (ℕ × ℕ)) → IsTrue (are_in_word word ranges) → IsTrue (is_cover word ranges) → bits_of ranges ≡ word
cover_bits word ranges within covered = sym (named-all word ranges within) ∙ named-each ranges word (cover_each word ranges covered)

-- a field's ranges are some of its format's
field_some : (fields : List FieldDecl) (j : ℕ) (field : FieldDecl) → slice_get fields j ≡ Some field → bits_of field.ranges ≤ bits_of (flat_map (λ (f : FieldDecl). f.ranges) fields)
field_some [] j field at = absurd (no_field at)
  where
    no_field : slice_get {X = FieldDecl} [] j ≡ Some field → ⊥
    no_field h = cc
field_some (f ∷ fields) zero field at =
    let same : f ≡ field = cc in
    let whole : bits_of (f.ranges ++ flat_map (λ (g : FieldDecl). g.ranges) fields) ≡ bits_of f.ranges + bits_of (flat_map (λ (g : FieldDecl). g.ranges) fields) = sum_by-append (λ (x : ℕ × ℕ). x.0 + 1 - x.1) f.ranges _ in
    let alike : bits_of f.ranges ≡ bits_of field.ranges = ap (λ (g : FieldDecl). bits_of g.ranges) same in
    omega arith
field_some (f ∷ fields) (suc j) field at =
    let later : bits_of field.ranges ≤ bits_of (flat_map (λ (g : FieldDecl). g.ranges) fields) = field_some fields j field at in
    let whole : bits_of (f.ranges ++ flat_map (λ (g : FieldDecl). g.ranges) fields) ≡ bits_of f.ranges + bits_of (flat_map (λ (g : FieldDecl). g.ranges) fields) = sum_by-append (λ (x : ℕ × ℕ). x.0 + 1 - x.1) f.ranges _ in
    omega arith

-- a field has no more bits than the word
pub field_fits : (word : ℕ) (format : Format) (j : ℕ) (field : FieldDecl) → IsTrue (is_format word format) → slice_get format.fields j ≡ Some field → bits_of field.ranges ≤ word
field_fits word format j field h at =
    let all : bits_of (ranges_in format) ≡ word = cover_bits word (ranges_in format) (both _ _ (both _ _ h).0).1 (both _ _ h).1 in
    let some : bits_of field.ranges ≤ bits_of (ranges_in format) = field_some format.fields j field at in
    omega arith
