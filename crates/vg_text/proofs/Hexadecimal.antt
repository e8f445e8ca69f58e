-- The laws of hexadecimal numbers.
use Rattle.std.proofs.Common.{◌≡◌, ℕ, zero, suc, ◌+◌, ◌-◌, ◌*◌, ◌/◌, ◌%◌, ◌^◌, ◌<◌, ◌≤◌, ◌≢◌, not, eqb, List, [], ◌∷◌, ◌++◌, Some, None, length, take, drop, get_or, set, refl, ap, sym, ◌∙◌, subst, inl, inr, arith}
use Rattle.std.specs.Prelude.{IsTrue}
use Rattle.std.specs.List.{AllByRecursion}
use Rattle.std.specs.Option.{option_and_then}
use Rattle.std.proofs.Math.Nat.{pow-suc, one-le-pow, mod-eq_of_lt, pow-le-pow_right, div-div-eq-div-mul}
use Rattle.std.proofs.lemmas.Nat.{div-mul-add, mod-mul-add, mul-add-lt, div-add-mod', mod_below}
use Rattle.std.proofs.lemmas.Bool.{ne_eqb, and_from, not_from_false, cases_lt}
use Rattle.std.proofs.lemmas.Bool.Decides.{nat_tests}
use Rattle.std.proofs.lemmas.Option.{none-some, same_Some}
use Rattle.std.proofs.lemmas.List.{drop_more, take-append-drop, drop_all, drop-set}
use Rattle.vg_text.specs.Piece.{lacks}
use Rattle.vg_text.specs.Number.{hex_digit, hex_value, hexadecimal, hexadecimal_after, hexadecimal_at, IsHexCharacter}
use Rattle.vg_text.proofs.Pieces.{cases_option}

-- a digit and its character
pub hex_value-hex_digit : (d : ℕ) → d < 16 → hex_value (hex_digit d) ≡ Some d
unfolding hex_value hex_digit
hex_value-hex_digit d small = grind (arith, nat_tests)

pub hex_digit-hex_value : (c d : ℕ) → hex_value c ≡ Some d → (hex_digit d ≡ c) × (d < 16)
unfolding hex_value hex_digit
hex_digit-hex_value c d is = grind (arith, nat_tests)

pub hex_digit_character : (d : ℕ) → d < 16 → IsHexCharacter (hex_digit d)
unfolding hex_digit
hex_digit_character d small = grind (arith, nat_tests)

pow-add_one : (digits : ℕ) → 16 ^ (digits + 1) ≡ 16 ^ digits * 16
pow-add_one digits = let next : digits + 1 ≡ suc digits = omega arith in ap (λ k. 16 ^ k) next ∙ pow-suc 16 digits

-- the parts of a number at a digit
mod_digit : (n p : ℕ) → 0 < p → n % (p * 16) ≡ n / p % 16 * p + n % p
mod_digit n p some =
    let low : ℕ = n / p % 16 * p + n % p in
    let whole : n ≡ n / p / 16 * (p * 16) + low = omega (arith, div-add-mod' n p, ap (λ q. q * p) (div-add-mod' (n / p) 16)) in
    ap (λ m. m % (p * 16)) whole ∙ mod-mul-add (n / p / 16) (p * 16) low (mul-add-lt (n / p % 16) p (n % p) 16 (mod_below (n / p) 16 (omega arith)) (mod_below n p some))

pow_pos : (digits : ℕ) → 0 < 16 ^ digits
pow_pos digits = one-le-pow digits 16 (omega arith)

pub hexadecimal-suc : (digits n : ℕ) → hexadecimal (suc digits) n ≡ hex_digit (n / 16 ^ digits % 16) ∷ hexadecimal digits n
unfolding hexadecimal
hexadecimal-suc digits n = refl

pub length-hexadecimal : (digits n : ℕ) → length (hexadecimal digits n) ≡ digits
unfolding hexadecimal
length-hexadecimal zero n = refl
length-hexadecimal (suc digits) n = ap suc (length-hexadecimal digits n)

-- each character is a digit or `a` to `f`
pub all_hex_characters : (digits n : ℕ) → AllByRecursion IsHexCharacter (hexadecimal digits n)
unfolding hexadecimal
all_hex_characters zero n = tt
all_hex_characters (suc digits) n = (hex_digit_character (n / 16 ^ digits % 16) (mod_below (n / 16 ^ digits) 16 (omega arith)), all_hex_characters digits n)

-- so no line feed and no space is among them
lacks_from_all : (byte : ℕ) (text : List ℕ) → byte < 48 → AllByRecursion IsHexCharacter text → IsTrue (lacks byte text)
lacks_from_all byte [] below all = refl
lacks_from_all byte (c ∷ text) below all =
    let other : c ≢ byte = elim all.0 [ inl w ↦ (λ e. omega arith) | inr w ↦ (λ e. omega arith) ] in
    and_from (not (eqb c byte)) (lacks byte text) (not_from_false _ (ne_eqb c byte other)) (lacks_from_all byte text below all.1)

pub lacks-hexadecimal : (byte digits n : ℕ) → byte < 48 → IsTrue (lacks byte (hexadecimal digits n))
lacks-hexadecimal byte digits n below = lacks_from_all byte (hexadecimal digits n) below (all_hex_characters digits n)

-- what is written is read again, after the number so far
hexadecimal_after-hexadecimal : (a digits n : ℕ) (rest : List ℕ) → hexadecimal_after a digits (hexadecimal digits n ++ rest) ≡ Some (a * 16 ^ digits + n % 16 ^ digits, rest)
unfolding hexadecimal hexadecimal_after
hexadecimal_after-hexadecimal a zero n rest = let number : a ≡ a * 1 + n % 1 = omega arith in ap (λ m. Some (m, rest)) number
hexadecimal_after-hexadecimal a (suc digits) n rest =
    let d : ℕ = n / 16 ^ digits % 16 in
    let number : (a * 16 + d) * 16 ^ digits + n % 16 ^ digits ≡ a * 16 ^ suc digits + n % 16 ^ suc digits =
    omega (arith, ap (λ p. a * p) (pow-suc 16 digits), ap (λ p. n % p) (pow-suc 16 digits), mod_digit n (16 ^ digits) (pow_pos digits)) in
    rw (hex_value-hex_digit d (mod_below (n / 16 ^ digits) 16 (omega arith)))
    (hexadecimal_after-hexadecimal (a * 16 + d) digits n rest ∙ ap (λ m. Some (m, rest)) number)

-- what is written is read again, whatever follows it
pub hexadecimal_at-hexadecimal : (digits n : ℕ) (rest : List ℕ) → n < 16 ^ digits → hexadecimal_at digits (hexadecimal digits n ++ rest) ≡ Some (n, rest)
unfolding hexadecimal_at
hexadecimal_at-hexadecimal digits n rest small = hexadecimal_after-hexadecimal 0 digits n rest ∙ (let same : 0 * 16 ^ digits + n % 16 ^ digits ≡ n = omega (arith, mod-eq_of_lt small) in ap (λ m. Some (m, rest)) same)

-- what is read after the number so far is written so, and the number goes on from the one so far
record IsReadAfter (a digits : ℕ) (text : List ℕ) (found : ℕ × List ℕ) : Type 0 where
  low : ℕ
  below : low < 16 ^ digits
  number : found.0 ≡ a * 16 ^ digits + low
  text_is : text ≡ hexadecimal digits found.0 ++ found.1

is_read_after : (a digits : ℕ) (text : List ℕ) (found : ℕ × List ℕ) → hexadecimal_after a digits text ≡ Some found → IsReadAfter a digits text found
unfolding hexadecimal hexadecimal_after
is_read_after a zero text found is =
    let Read : ℕ × List ℕ → Type 0 = λ f. IsReadAfter a zero text f in
    subst Read (same_Some _ _ is) (record { low = 0; below = omega arith; number = omega arith; text_is = refl })
is_read_after a (suc digits) [] found is = absurd (none-some found is)
is_read_after a (suc digits) (c ∷ text) found is =
    elim (cases_option (hex_value c)) [
      | inl none ↦ let no = rw none at is in absurd (none-some found no)
      | inr w ↦
          let tail = is_read_after (a * 16 + w.0) digits text found (rw w.1 at is) in
          let digit = hex_digit-hex_value c w.0 w.1 in
          let front : found.0 / 16 ^ digits ≡ a * 16 + w.0 = ap (λ n. n / 16 ^ digits) tail.number ∙ div-mul-add (a * 16 + w.0) (16 ^ digits) tail.low tail.below in
          let last : found.0 / 16 ^ digits % 16 ≡ w.0 = ap (λ n. n % 16) front ∙ mod-mul-add a 16 w.0 digit.1 in
          let head : hex_digit (found.0 / 16 ^ digits % 16) ≡ c = ap hex_digit last ∙ digit.0 in
          record {
            low = w.0 * 16 ^ digits + tail.low;
            below = omega (arith, mul-add-lt w.0 (16 ^ digits) tail.low 16 digit.1 tail.below, pow-suc 16 digits);
            number = omega (arith, tail.number, ap (λ p. a * p) (pow-suc 16 digits));
            text_is = rw head (ap (λ t. c ∷ t) tail.text_is);
          }
    ]

-- what is read is written so
pub hexadecimal-hexadecimal_at : (digits : ℕ) (text : List ℕ) (found : ℕ × List ℕ) → hexadecimal_at digits text ≡ Some found → (text ≡ hexadecimal digits found.0 ++ found.1) × (found.0 < 16 ^ digits)
unfolding hexadecimal_at
hexadecimal-hexadecimal_at digits text found is = let read = is_read_after 0 digits text found is in (read.text_is, omega (arith, read.below, read.number))

-- a text that is too short
hexadecimal_after_short : (a digits : ℕ) (text : List ℕ) → length text < digits → hexadecimal_after a digits text ≡ None
unfolding hexadecimal_after
hexadecimal_after_short a zero text short = absurd (omega arith)
hexadecimal_after_short a (suc digits) [] short = refl
hexadecimal_after_short a (suc digits) (c ∷ text) short =
    elim (cases_option (hex_value c)) [
      | inl none ↦ rw none refl
      | inr w ↦ rw w.1 (hexadecimal_after_short (a * 16 + w.0) digits text (omega arith))
    ]

pub hexadecimal_at_short : (digits : ℕ) (text : List ℕ) → length text < digits → hexadecimal_at digits text ≡ None
unfolding hexadecimal_at
hexadecimal_at_short digits text short = hexadecimal_after_short 0 digits text short

-- a loop over the digits in front of the rest: how it begins, one digit more, no digit, and all of them
pub hexadecimal_after_first : (digits : ℕ) (text front rest : List ℕ) → front ≡ take digits text → rest ≡ drop digits text → length front ≡ digits → hexadecimal_after 0 (length front - 0) (front ++ rest) ≡ hexadecimal_at digits text
unfolding hexadecimal_at
hexadecimal_after_first digits text front rest is behind len =
    let count : length front - 0 ≡ digits = omega arith in
    let whole : front ++ rest ≡ text = (λ i. is i ++ behind i) ∙ take-append-drop digits text in
    λ i. hexadecimal_after 0 (count i) (whole i)

after_cons : (a k d c : ℕ) (text : List ℕ) → hex_value c ≡ Some d → hexadecimal_after a (suc k) (c ∷ text) ≡ hexadecimal_after (a * 16 + d) k text
unfolding hexadecimal_after
after_cons a k d c text is = rw is refl

after_cons_none : (a k c : ℕ) (text : List ℕ) → hex_value c ≡ None → hexadecimal_after a (suc k) (c ∷ text) ≡ None
unfolding hexadecimal_after
after_cons_none a k c text is = rw is refl

at_index : (a i : ℕ) (front rest : List ℕ) → i < length front → hexadecimal_after a (length front - i) (drop i front ++ rest) ≡ hexadecimal_after a (suc (length front - (i + 1))) (get_or front i 0 ∷ (drop (i + 1) front ++ rest))
at_index a i front rest within =
    let count : length front - i ≡ suc (length front - (i + 1)) = omega arith in
    λ j. hexadecimal_after a (count j) (drop_more front i 0 within j ++ rest)

pub hexadecimal_after_more : (a i d : ℕ) (front rest : List ℕ) → i < length front → hex_value (get_or front i 0) ≡ Some d → hexadecimal_after (a * 16 + d) (length front - (i + 1)) (drop (i + 1) front ++ rest) ≡ hexadecimal_after a (length front - i) (drop i front ++ rest)
hexadecimal_after_more a i d front rest within is = sym (at_index a i front rest within ∙ after_cons a (length front - (i + 1)) d (get_or front i 0) (drop (i + 1) front ++ rest) is)

pub hexadecimal_after_none : (a i : ℕ) (front rest : List ℕ) → i < length front → hex_value (get_or front i 0) ≡ None → hexadecimal_after a (length front - i) (drop i front ++ rest) ≡ None
hexadecimal_after_none a i front rest within is = at_index a i front rest within ∙ after_cons_none a (length front - (i + 1)) (get_or front i 0) (drop (i + 1) front ++ rest) is

pub hexadecimal_after_all : (a i : ℕ) (front rest : List ℕ) → length front ≤ i → hexadecimal_after a (length front - i) (drop i front ++ rest) ≡ Some (a, rest)
unfolding hexadecimal_after
hexadecimal_after_all a i front rest past =
    let count : length front - i ≡ 0 = omega arith in
    λ j. hexadecimal_after a (count j) (drop_all i front past j ++ rest)

-- the number stays below the power of its digits
pub more_below : (a d i : ℕ) → a < 16 ^ i → d < 16 → a * 16 + d < 16 ^ (i + 1)
more_below a d i small digit = omega (arith, pow-add_one i)

pub pow_within : (i : ℕ) → i ≤ 16 → 16 ^ i ≤ 2 ^ 64
pow_within i within = pow-le-pow_right {n = 16} (omega arith) within

-- a loop that fills a buffer from its end
pub hexadecimal_filled : (n written rest : ℕ) (buffer : List ℕ) → length buffer ≡ 32 → written < 32 → rest ≡ n / 16 ^ written → drop (32 - written) buffer ≡ hexadecimal written n → drop (32 - (written + 1)) (set buffer (31 - written) (hex_digit (rest % 16))) ≡ hexadecimal (written + 1) n
hexadecimal_filled n written rest buffer len within is filled =
    let at : 32 - (written + 1) ≡ 31 - written = omega arith in
    let behind : 31 - written + 1 ≡ 32 - written = omega arith in
    let place : 31 - written < length buffer = omega arith in
    ap (λ k. drop k (set buffer (31 - written) (hex_digit (rest % 16)))) at
    ∙ drop-set buffer (31 - written) (hex_digit (rest % 16)) place
    ∙ ap (λ k. hex_digit (rest % 16) ∷ drop k buffer) behind
    ∙ (λ i. hex_digit (is i % 16) ∷ filled i)
    ∙ (let next : suc written ≡ written + 1 = omega arith in sym (hexadecimal-suc written n) ∙ ap (λ k. hexadecimal k n) next)

pub rest_of_digits : (n written rest : ℕ) → rest ≡ n / 16 ^ written → rest / 16 ≡ n / 16 ^ (written + 1)
rest_of_digits n written rest is = ap (λ m. m / 16) is ∙ div-div-eq-div-mul n (16 ^ written) 16 ∙ ap (λ p. n / p) (sym (pow-add_one written))

pub hexadecimal-zero : (n : ℕ) → hexadecimal 0 n ≡ []
unfolding hexadecimal
hexadecimal-zero n = refl

-- digits that are read in two parts: first j of them, then k
after_add : (a j k : ℕ) (text : List ℕ) → hexadecimal_after a (j + k) text ≡ option_and_then (λ found. hexadecimal_after found.0 k found.1) (hexadecimal_after a j text)
unfolding hexadecimal_after
after_add a zero k text = let none : 0 + k ≡ k = omega arith in ap (λ m. hexadecimal_after a m text) none
after_add a (suc j) k [] = let count : suc j + k ≡ suc (j + k) = omega arith in ap (λ m. hexadecimal_after a m []) count
after_add a (suc j) k (c ∷ text) =
    let count : suc j + k ≡ suc (j + k) = omega arith in
    ap (λ m. hexadecimal_after a m (c ∷ text)) count
    ∙ elim (cases_option (hex_value c)) [
      | inl none ↦ rw none refl
      | inr w ↦ rw w.1 (after_add (a * 16 + w.0) j k text)
    ]

after_base : (a k : ℕ) (text : List ℕ) (found : ℕ × List ℕ) → hexadecimal_after 0 k text ≡ Some found → hexadecimal_after a k text ≡ Some (a * 16 ^ k + found.0, found.1)
after_base a k text found is =
    let read = is_read_after 0 k text found is in
    let small : found.0 < 16 ^ k = omega (arith, read.below, read.number) in
    ap (hexadecimal_after a k) read.text_is
    ∙ hexadecimal_after-hexadecimal a k found.0 found.1
    ∙ ap (λ m. Some (a * 16 ^ k + m, found.1)) (mod-eq_of_lt small)

after_base_none : (a k : ℕ) (text : List ℕ) → hexadecimal_after 0 k text ≡ None → hexadecimal_after a k text ≡ None
after_base_none a k text is =
    elim (cases_option (hexadecimal_after a k text)) [
      | inl none ↦ none
      | inr w ↦
          let read = is_read_after a k text w.0 w.1 in
          absurd (none-some _ (sym is ∙ ap (hexadecimal_after 0 k) read.text_is ∙ hexadecimal_after-hexadecimal 0 k w.0.0 w.0.1))
    ]

pub hexadecimal_at-add : (j k : ℕ) (text : List ℕ) (high low : ℕ × List ℕ) → hexadecimal_at j text ≡ Some high → hexadecimal_at k high.1 ≡ Some low → hexadecimal_at (j + k) text ≡ Some (high.0 * 16 ^ k + low.0, low.1)
unfolding hexadecimal_at
hexadecimal_at-add j k text high low first second = after_add 0 j k text ∙ rw first (after_base high.0 k high.1 low second)

pub hexadecimal_at-add_none : (j k : ℕ) (text : List ℕ) → hexadecimal_at j text ≡ None → hexadecimal_at (j + k) text ≡ None
unfolding hexadecimal_at
hexadecimal_at-add_none j k text first = after_add 0 j k text ∙ rw first refl

pub hexadecimal_at-add_later_none : (j k : ℕ) (text : List ℕ) (high : ℕ × List ℕ) → hexadecimal_at j text ≡ Some high → hexadecimal_at k high.1 ≡ None → hexadecimal_at (j + k) text ≡ None
unfolding hexadecimal_at
hexadecimal_at-add_later_none j k text high first second = after_add 0 j k text ∙ rw first (after_base_none high.0 k high.1 second)

-- up to 32 digits, read as those beyond the last 16 and then the others
pub wide_number : (digits j k high : ℕ) → j ≡ digits - 16 → j + k ≡ digits → high < 16 ^ j → high * 2 ^ 64 ≡ high * 16 ^ k
wide_number digits j k high first parts small =
    elim (cases_lt digits 17) [
      | inl few ↦
          let none : j ≡ 0 = omega arith in
          let no_high : high ≡ 0 = omega (arith, ap (λ m. 16 ^ m) none) in
          let both : 0 * 2 ^ 64 ≡ 0 * 16 ^ k = omega arith in
          ap (λ h. h * 2 ^ 64) no_high ∙ both ∙ ap (λ h. h * 16 ^ k) (sym no_high)
      | inr more ↦
          let rest : k ≡ 16 = omega arith in
          ap (λ m. high * 16 ^ m) (sym rest)
    ]
