-- The laws of decimal numbers. std's `decimal` holds of numbers of up to 64 digits.
use Rattle.std.proofs.Common.{◌≡◌, ◌≢◌, ℕ, suc, ◌+◌, ◌-◌, ◌*◌, ◌/◌, ◌%◌, ◌^◌, ◌<◌, ◌≤◌, true, not, eqb, ltb, List, [], ◌∷◌, ◌++◌, Option, Some, None, length, get_or, take, drop, set, refl, ap, sym, ◌∙◌, inl, inr, arith, length-append}
use Rattle.std.specs.Prelude.{IsTrue, decimal}
use Rattle.std.proofs.lemmas.Fmt.{decimal_digit, decimal_step_wide, decimal_by_steps_wide}
use Rattle.std.proofs.lemmas.List.{append_assoc, append-nil, drop_more, drop_all, drop-set, length-set, take_rest}
use Rattle.std.proofs.lemmas.Bool.{ne_eqb, eq-eqb, cases_eq, cases_lt, le-ltb, lt-ltb, ltb-true, and_from, not_from_false}
use Rattle.std.proofs.Math.Nat.{pow-suc, pow-le-pow_right}
use Rattle.std.proofs.lemmas.Bool.Decides.{nat_tests}
use Rattle.std.proofs.lemmas.Option.{none-some, same_Some, cond_some}
use Rattle.vg_text.specs.Piece.{lacks}
use Rattle.vg_text.specs.Number.{decimal_value, decimal_after, decimal_of, option_below}
use Rattle.vg_text.proofs.Pieces.{cases_option, lacks-append}

-- a digit and its character
pub decimal_value-digit : (d : ℕ) → d < 10 → decimal_value (48 + d) ≡ Some d
unfolding decimal_value
decimal_value-digit d small = grind (arith, nat_tests)

pub digit-decimal_value : (c d : ℕ) → decimal_value c ≡ Some d → (48 + d ≡ c) × (d < 10)
unfolding decimal_value
digit-decimal_value c d is = grind (arith, nat_tests)

-- one digit more at the end
decimal_after-push : (a n d : ℕ) (text : List ℕ) → d < 10 → decimal_after a text ≡ Some n → decimal_after a (text ++ (48 + d) ∷ []) ≡ Some (n * 10 + d)
unfolding decimal_after
decimal_after-push a n d [] small is = rw (decimal_value-digit d small) (ap (λ m. Some (m * 10 + d)) (same_Some _ _ is))
decimal_after-push a n d (c ∷ text) small is =
    elim (cases_option (decimal_value c)) [
      | inl none ↦ let no = rw none at is in absurd (none-some n no)
      | inr w ↦ rw w.1 (decimal_after-push (a * 10 + w.0) n d text small (rw w.1 at is))
    ]

-- the digits of n make n, and of two digits or more the first isn't 0
record IsWritten (n : ℕ) (text : List ℕ) : Type 0 where
  number : decimal_after 0 text ≡ Some n
  some : 0 < length text
  one : n < 10 → length text ≡ 1
  first : 0 < n → get_or text 0 0 ≢ 48

written_digit : (n : ℕ) → n < 10 → IsWritten n ((48 + n) ∷ [])
unfolding decimal_after
written_digit n small = record {
  number = rw (decimal_value-digit n small) (let same : 0 * 10 + n ≡ n = omega arith in ap (λ m. Some m) same);
  some = omega arith;
  one = λ _. refl;
  first = λ more e. omega arith;
}

get_first-append : (text rest : List ℕ) → 0 < length text → get_or (text ++ rest) 0 0 ≡ get_or text 0 0
get_first-append [] rest some = absurd (omega arith)
get_first-append (c ∷ text) rest some = refl

written_step : (n : ℕ) (text : List ℕ) → 10 ≤ n → IsWritten (n / 10) text → IsWritten n (text ++ (48 + n % 10) ∷ [])
written_step n text large w = record {
  number = decimal_after-push 0 (n / 10) (n % 10) text (omega arith) w.number ∙ (let same : n / 10 * 10 + n % 10 ≡ n = omega arith in ap (λ m. Some m) same);
  some = omega (arith, length-append text ((48 + n % 10) ∷ []), w.some);
  one = λ small. absurd (omega arith);
  first = λ more e. w.first (omega arith) (sym (get_first-append text ((48 + n % 10) ∷ []) w.some) ∙ e);
}

decimal_is_written : (n : ℕ) → n < 10 ^ 64 → IsWritten n (decimal n)
decimal_is_written = decimal_by_steps_wide IsWritten written_digit written_step

decimal_of_written : (n : ℕ) (text : List ℕ) → IsWritten n text → decimal_of text ≡ Some n
unfolding decimal_of
decimal_of_written n [] w = absurd (omega (arith, w.some))
decimal_of_written n (c ∷ []) w = w.number
decimal_of_written n (c ∷ d ∷ text) w =
    let large : 10 ≤ n = elim (cases_lt n 10) [ inl small ↦ absurd (omega (arith, w.one small)) | inr more ↦ more ] in
    rw (ne_eqb c 48 (w.first (omega arith))) w.number

-- what is written is read again
pub decimal_of-decimal : (n : ℕ) → n < 10 ^ 64 → decimal_of (decimal n) ≡ Some n
decimal_of-decimal n small = decimal_of_written n (decimal n) (decimal_is_written n small)

-- digits make the number larger
pub le-decimal_after : (a : ℕ) (text : List ℕ) (n : ℕ) → decimal_after a text ≡ Some n → a ≤ n
unfolding decimal_after
le-decimal_after a [] n is = omega (arith, same_Some _ _ is)
le-decimal_after a (c ∷ text) n is =
    elim (cases_option (decimal_value c)) [
      | inl none ↦ let no = rw none at is in absurd (none-some n no)
      | inr w ↦ omega (arith, le-decimal_after (a * 10 + w.0) text n (rw w.1 at is))
    ]

-- what is read behind a number that isn't 0 is written behind it
decimal-decimal_after : (a : ℕ) (text : List ℕ) (n : ℕ) → 0 < a → decimal_after a text ≡ Some n → n < 10 ^ 64 → decimal n ≡ decimal a ++ text
unfolding decimal_after
decimal-decimal_after a [] n some is small = ap decimal (sym (same_Some _ _ is)) ∙ sym (append-nil (decimal a))
decimal-decimal_after a (c ∷ text) n some is small =
    elim (cases_option (decimal_value c)) [
      | inl none ↦ let no = rw none at is in absurd (none-some n no)
      | inr w ↦
          let m : ℕ = a * 10 + w.0 in
          let rest = rw w.1 at is in
          let digit = digit-decimal_value c w.0 w.1 in
          let front : m / 10 ≡ a = omega (arith, digit.1) in
          let end : 48 + m % 10 ≡ c = omega (arith, digit.0, digit.1) in
          decimal-decimal_after m text n (omega arith) rest small
          ∙ ap (λ t. t ++ text) (decimal_step_wide m (omega arith) (omega (arith, le-decimal_after m text n rest)) ∙ (λ i. decimal (front i) ++ (end i ∷ [])))
          ∙ append_assoc (decimal a) (c ∷ []) text
    ]

-- what is read is written so
pub decimal-decimal_of : (text : List ℕ) (n : ℕ) → decimal_of text ≡ Some n → n < 10 ^ 64 → text ≡ decimal n
unfolding decimal_of decimal_after
decimal-decimal_of [] n is small = absurd (none-some n is)
decimal-decimal_of (c ∷ []) n is small =
    elim (cases_option (decimal_value c)) [
      | inl none ↦ let no = rw none at is in absurd (none-some n no)
      | inr w ↦
          let digit = digit-decimal_value c w.0 w.1 in
          let number : 0 * 10 + w.0 ≡ n = same_Some _ _ (rw w.1 at is) in
          let char : 48 + n ≡ c = omega (arith, digit.0) in
          sym (decimal_digit n (omega (arith, digit.1)) ∙ ap (λ b. b ∷ []) char)
    ]
decimal-decimal_of (c ∷ e ∷ text) n is small =
    elim (cases_eq c 48) [
      | inl same ↦ let no = rw (eq-eqb c 48 same) at is in absurd (none-some n no)
      | inr other ↦ elim (cases_option (decimal_value c)) [
        | inl none ↦ let no = rw (ne_eqb c 48 other, none) at is in absurd (none-some n no)
        | inr w ↦
            let digit = digit-decimal_value c w.0 w.1 in
            let rest = rw (ne_eqb c 48 other, w.1) at is in
            let d : ℕ = 0 * 10 + w.0 in
            let char : 48 + d ≡ c = omega (arith, digit.0) in
            let some : 0 < d = omega (arith, other, digit.0) in
            sym (decimal-decimal_after d (e ∷ text) n some rest small
            ∙ ap (λ t. t ++ (e ∷ text)) (decimal_digit d (omega (arith, digit.1)) ∙ ap (λ b. b ∷ []) char))
      ]
    ]

-- no line feed and no space is in it
digit_lacks : (byte d : ℕ) → byte < 48 → IsTrue (lacks byte ((48 + d) ∷ []))
digit_lacks byte d below = let other : 48 + d ≢ byte = λ e. omega arith in and_from (not (eqb (48 + d) byte)) true (not_from_false _ (ne_eqb (48 + d) byte other)) refl

pub lacks-decimal : (byte n : ℕ) → byte < 48 → n < 10 ^ 64 → IsTrue (lacks byte (decimal n))
lacks-decimal byte n below = decimal_by_steps_wide (λ _ text. IsTrue (lacks byte text)) (λ m _. digit_lacks byte m below)
    (λ m text _ without. rw (lacks-append byte text ((48 + m % 10) ∷ [])) (and_from (lacks byte text) (lacks byte ((48 + m % 10) ∷ [])) without (digit_lacks byte (m % 10) below))) n

-- a loop over the text: one digit more, no digit, a number that is too large already, and the end
pub decimal_after_more : (a i d : ℕ) (text : List ℕ) → i < length text → decimal_value (get_or text i 0) ≡ Some d → decimal_after (a * 10 + d) (drop (i + 1) text) ≡ decimal_after a (drop i text)
unfolding decimal_after
decimal_after_more a i d text within is = sym (ap (decimal_after a) (drop_more text i 0 within) ∙ rw is refl)

pub decimal_after_none : (a i : ℕ) (text : List ℕ) → i < length text → decimal_value (get_or text i 0) ≡ None → decimal_after a (drop i text) ≡ None
unfolding decimal_after
decimal_after_none a i text within is = ap (decimal_after a) (drop_more text i 0 within) ∙ rw is refl

pub option_below-large : (a bound : ℕ) (text : List ℕ) → bound ≤ a → option_below bound (decimal_after a text) ≡ None
option_below-large a bound text large =
    elim (cases_option (decimal_after a text)) [
      | inl none ↦ rw none refl
      | inr w ↦ let past : bound ≤ w.0 = omega (arith, le-decimal_after a text w.0 w.1) in rw (w.1, le-ltb w.0 bound past) refl
    ]

pub option_below-overflow : (bound a i d : ℕ) (text : List ℕ) → i < length text → decimal_value (get_or text i 0) ≡ Some d → (a * 10 + d < bound → ⊥) → option_below bound (decimal_after a (drop i text)) ≡ None
option_below-overflow bound a i d text within is past =
    ap (option_below bound) (sym (decimal_after_more a i d text within is))
    ∙ option_below-large (a * 10 + d) bound (drop (i + 1) text) (elim (cases_lt (a * 10 + d) bound) [ inl below ↦ absurd (past below) | inr large ↦ large ])

pub option_below-small : (n bound : ℕ) → n < bound → option_below bound (Some n) ≡ Some n
option_below-small n bound small = rw (lt-ltb n bound small) refl

-- a number below the bound is read so
pub Some-option_below : (bound n : ℕ) (o : Option ℕ) → option_below bound o ≡ Some n → (o ≡ Some n) × (n < bound)
Some-option_below bound n None is = absurd (none-some n is)
Some-option_below bound n (Some m) is = let found = cond_some (ltb m bound) m n is in (ap (λ k. Some k) found.1, omega (arith, ltb-true m bound found.0, found.1))

pub decimal-option_below : (text : List ℕ) (n : ℕ) → option_below (2 ^ 64) (decimal_of text) ≡ Some n → (n < 2 ^ 64) × (text ≡ decimal n)
decimal-option_below text n is = let found = Some-option_below (2 ^ 64) n (decimal_of text) is in (found.1, decimal-decimal_of text n found.0 (omega (arith, found.1)))

pub option_below-decimal : (n : ℕ) → n < 2 ^ 64 → option_below (2 ^ 64) (decimal_of (decimal n)) ≡ Some n
option_below-decimal n small = ap (option_below (2 ^ 64)) (decimal_of-decimal n (omega arith)) ∙ option_below-small n (2 ^ 64) small

pub decimal_after_all : (a i : ℕ) (text : List ℕ) → length text ≤ i → decimal_after a (drop i text) ≡ Some a
unfolding decimal_after
decimal_after_all a i text past = ap (decimal_after a) (drop_all i text past)

-- a loop that fills a buffer from its end
pub record IsFilled (n rest start : ℕ) (buffer : List ℕ) : Type 0 where
  pub room : rest < 10 ^ start
  pub positive : 0 < start
  pub within : start ≤ 20
  pub len : length buffer ≡ 20
  pub text : decimal rest ++ drop start buffer ≡ decimal n

room_for_two : (start rest : ℕ) → 10 ≤ rest → rest < 10 ^ start → 1 < start
room_for_two start rest large room =
    elim (cases_lt 1 start) [
      | inl more ↦ more
      | inr few ↦ absurd (omega (arith, pow-le-pow_right {n = 10} (omega arith) few))
    ]

filled_text : (start c : ℕ) (buffer : List ℕ) → length buffer ≡ 20 → start ≤ 20 → 0 < start → drop (start - 1) (set buffer (start - 1) c) ≡ c ∷ drop start buffer
filled_text start c buffer len within positive =
    let place : start - 1 < length buffer = omega arith in
    let behind : start - 1 + 1 ≡ start = omega arith in
    drop-set buffer (start - 1) c place ∙ ap (λ k. c ∷ drop k buffer) behind

pub filled_more : (n rest start : ℕ) (buffer : List ℕ) → n < 2 ^ 64 → rest ≤ n → 10 ≤ rest → IsFilled n rest start buffer → IsFilled n (rest / 10) (start - 1) (set buffer (start - 1) (48 + rest % 10))
filled_more n rest start buffer small least large filled =
    let two = room_for_two start rest large filled.room in
    let next : start ≡ suc (start - 1) = omega arith in
    let power : 10 ^ start ≡ 10 ^ (start - 1) * 10 = ap (λ k. 10 ^ k) next ∙ pow-suc 10 (start - 1) in
    record {
      room = omega (arith, filled.room, power);
      positive = omega (arith, two);
      within = omega (arith, filled.within);
      len = length-set buffer (start - 1) (48 + rest % 10) ∙ filled.len;
      text =
          ap (λ t. decimal (rest / 10) ++ t) (filled_text start (48 + rest % 10) buffer filled.len filled.within filled.positive)
          ∙ sym (append_assoc (decimal (rest / 10)) ((48 + rest % 10) ∷ []) (drop start buffer))
          ∙ ap (λ t. t ++ drop start buffer) (sym (decimal_step_wide rest large (omega arith)))
          ∙ filled.text;
    }

pub filled_last : (n rest start : ℕ) (buffer : List ℕ) → rest < 10 → IsFilled n rest start buffer → take (20 - (start - 1)) (drop (start - 1) (set buffer (start - 1) (48 + rest))) ≡ decimal n
filled_last n rest start buffer small filled =
    let xs : List ℕ = set buffer (start - 1) (48 + rest) in
    let len : 20 ≡ length xs = sym (length-set buffer (start - 1) (48 + rest) ∙ filled.len) in
    ap (λ m. take (m - (start - 1)) (drop (start - 1) xs)) len
    ∙ take_rest xs (start - 1)
    ∙ filled_text start (48 + rest) buffer filled.len filled.within filled.positive
    ∙ ap (λ t. t ++ drop start buffer) (sym (decimal_digit rest small))
    ∙ filled.text

-- the texts that a first look tells apart
pub decimal_of-nil : (text : List ℕ) → length text ≡ 0 → decimal_of text ≡ None
unfolding decimal_of
decimal_of-nil [] none = refl
decimal_of-nil (c ∷ text) none = absurd (omega arith)

pub decimal_of-zero : (c : ℕ) (rest : List ℕ) → c ≡ 48 → length rest ≡ 0 → decimal_of (c ∷ rest) ≡ Some 0
unfolding decimal_of decimal_after decimal_value
decimal_of-zero c [] first none = rw first refl
decimal_of-zero c (d ∷ rest) first none = absurd (omega arith)

pub decimal_of-leading_zero : (c : ℕ) (rest : List ℕ) → c ≡ 48 → (length rest ≡ 0 → ⊥) → decimal_of (c ∷ rest) ≡ None
unfolding decimal_of
decimal_of-leading_zero c [] first some = absurd (some refl)
decimal_of-leading_zero c (d ∷ rest) first some = rw (eq-eqb c 48 first) refl

pub decimal_of-no_leading_zero : (c : ℕ) (rest : List ℕ) → c ≢ 48 → decimal_of (c ∷ rest) ≡ decimal_after 0 (c ∷ rest)
unfolding decimal_of
decimal_of-no_leading_zero c [] other = refl
decimal_of-no_leading_zero c (d ∷ rest) other = rw (ne_eqb c 48 other) refl
