-- Hexadecimal digits without zeros in front of another.
use Rattle.std.proofs.Common.{◌≡◌, ◌≢◌, ℕ, zero, suc, ◌+◌, ◌-◌, ◌*◌, ◌/◌, ◌%◌, ◌^◌, ◌<◌, ◌≤◌, ◌⊎◌, List, [], ◌∷◌, refl, ap, sym, ◌∙◌, inl, inr, arith}
use Rattle.std.proofs.Math.Nat.{div-eq_of_lt, div-lt_iff_lt-mul, one-le-pow, pow-le-pow_right, pow-suc}
use Rattle.std.proofs.lemmas.Bool.{cases_lt, eq-eqb, ne_eqb}
use Rattle.std.proofs.lemmas.Bool.Decides.{nat_tests}
use Rattle.vg_text.specs.Number.{hex_digit, hexadecimal}
use Rattle.vg_text.proofs.Hexadecimal.{hexadecimal-suc}
use Rattle.vg_grammar.specs.Line.{trimmed}

power_some : (k : ℕ) → 0 < 16 ^ k
power_some k = one-le-pow k 16 (omega arith)

-- a quotient by a power that is 0, and one that isn't
pub quotient_none : (n k : ℕ) → n / 16 ^ k ≡ 0 → n < 16 ^ k
quotient_none n k none =
    let below : n / 16 ^ k < 1 = omega arith in
    let found : n < 1 * 16 ^ k = (div-lt_iff_lt-mul (power_some k)).0 below in
    omega arith

pub quotient_some : (n k : ℕ) → 0 < n / 16 ^ k → 16 ^ k ≤ n
quotient_some n k some =
    elim (cases_lt n (16 ^ k)) [
      | inl below ↦ let none : n / 16 ^ k ≡ 0 = div-eq_of_lt below in absurd (omega arith)
      | inr above ↦ above
    ]

zero_digit : (n k : ℕ) → n < 16 ^ k → hex_digit (n / 16 ^ k % 16) ≡ 48
unfolding hex_digit
zero_digit n k below = let none : n / 16 ^ k ≡ 0 = div-eq_of_lt below in rw none refl

some_digit : (n k : ℕ) → 16 ^ k ≤ n → n < 16 ^ suc k → hex_digit (n / 16 ^ k % 16) ≢ 48
unfolding hex_digit
some_digit n k above below e =
    let power : 16 ^ suc k ≡ 16 ^ k * 16 = pow-suc 16 k in
    let turned : 16 ^ k * 16 ≡ 16 * 16 ^ k = omega arith in
    let within : n < 16 * 16 ^ k = omega (arith, power, below) in
    let small : n / 16 ^ k < 16 = (div-lt_iff_lt-mul (power_some k)).1 within in
    let some : 0 < n / 16 ^ k = positive n k above in
    grind (arith, nat_tests)
  where
    positive : (n k : ℕ) → 16 ^ k ≤ n → 0 < n / 16 ^ k
    positive n k above =
        elim (cases_lt 0 (n / 16 ^ k)) [
          | inl some ↦ some
          | inr none ↦ let below : n < 16 ^ k = quotient_none n k (omega arith) in absurd (omega arith)
        ]

-- a zero in front of a digit goes
trimmed_zero : (c : ℕ) (k n : ℕ) → c ≡ 48 → trimmed (c ∷ hexadecimal (suc k) n) ≡ trimmed (hexadecimal (suc k) n)
trimmed_zero c k n is = rw hexadecimal-suc (rw (eq-eqb c 48 is) refl)

-- one that isn't zero stays
trimmed_some : (c k n : ℕ) → c ≢ 48 → trimmed (c ∷ hexadecimal k n) ≡ c ∷ hexadecimal k n
unfolding hexadecimal
trimmed_some c zero n other = refl
trimmed_some c (suc k) n other = rw (ne_eqb c 48 other) refl

-- zeros in front of a number of k digits and more go
trimmed_more : (extra k n : ℕ) → n < 16 ^ suc k → trimmed (hexadecimal (extra + suc k) n) ≡ trimmed (hexadecimal (suc k) n)
trimmed_more zero k n below = let none : 0 + suc k ≡ suc k = omega arith in ap (λ m. trimmed (hexadecimal m n)) none
trimmed_more (suc extra) k n below =
    let count : suc extra + suc k ≡ suc (suc (extra + k)) = omega arith in
    let less : extra + suc k ≡ suc (extra + k) = omega arith in
    let room : 16 ^ suc k ≤ 16 ^ suc (extra + k) = pow-le-pow_right {n = 16} (omega arith) (omega arith) in
    let small : n < 16 ^ suc (extra + k) = omega arith in
    ap (λ m. trimmed (hexadecimal m n)) count
    ∙ ap trimmed (hexadecimal-suc (suc (extra + k)) n)
    ∙ trimmed_zero (hex_digit (n / 16 ^ suc (extra + k) % 16)) (extra + k) n (zero_digit n (suc (extra + k)) small)
    ∙ ap (λ m. trimmed (hexadecimal m n)) (sym less)
    ∙ trimmed_more extra k n below

one_digit : (n : ℕ) → trimmed (hexadecimal 1 n) ≡ hexadecimal 1 n
unfolding hexadecimal
one_digit n = refl

trimmed_all : (k n : ℕ) → (k ≡ 0) ⊎ (16 ^ k ≤ n) → n < 16 ^ suc k → trimmed (hexadecimal (suc k) n) ≡ hexadecimal (suc k) n
trimmed_all k n (inl one) below = ap (λ j. trimmed (hexadecimal (suc j) n)) one ∙ one_digit n ∙ ap (λ j. hexadecimal (suc j) n) (sym one)
trimmed_all k n (inr above) below =
    ap trimmed (hexadecimal-suc k n)
    ∙ trimmed_some (hex_digit (n / 16 ^ k % 16)) k n (some_digit n k above below)
    ∙ sym (hexadecimal-suc k n)

-- a number has as many digits as its size asks for
pub digits_needed : (digits n : ℕ) → 0 < digits → digits ≤ 16 → (digits ≡ 1) ⊎ (16 ^ (digits - 1) ≤ n) → n < 16 ^ digits → hexadecimal digits n ≡ trimmed (hexadecimal 16 n)
digits_needed digits n some most least below =
    let k : ℕ = digits - 1 in
    let is : digits ≡ suc (digits - 1) = omega arith in
    let within : n < 16 ^ suc (digits - 1) = omega (arith, ap (λ j. 16 ^ j) is, below) in
    let count : (16 - digits) + suc (digits - 1) ≡ 16 = omega arith in
    let needs : (digits - 1 ≡ 0) ⊎ (16 ^ (digits - 1) ≤ n) = elim least [ inl one ↦ inl (omega arith) | inr above ↦ inr above ] in
    ap (λ j. hexadecimal j n) is
    ∙ sym (trimmed_all (digits - 1) n needs within)
    ∙ sym (trimmed_more (16 - digits) (digits - 1) n within)
    ∙ ap (λ j. trimmed (hexadecimal j n)) count

-- a number of 64 bits has at most 16 digits
pub few_digits : (n k : ℕ) → n < 2 ^ 64 → 16 ^ k ≤ n → k < 16
few_digits n k small above =
    elim (cases_lt k 16) [
      | inl few ↦ few
      | inr many ↦ let power : 16 ^ 16 ≤ 16 ^ k = pow-le-pow_right {n = 16} (omega arith) many in absurd (omega arith)
    ]

-- a number's digits, without zeros in front of another, are some of its lowest, which tell it
pub record HasDigits (n : ℕ) (text : List ℕ) : Type 0 where
  pub count : ℕ
  pub room : n < 16 ^ count
  pub text_is : text ≡ hexadecimal count n

trimmed_digits : (k n : ℕ) → n < 16 ^ suc k → HasDigits n (trimmed (hexadecimal (suc k) n))
trimmed_digits zero n below = record { count = 1; room = below; text_is = trimmed_all 0 n (inl refl) below }
trimmed_digits (suc k) n below =
    elim (cases_lt n (16 ^ suc k)) [
      | inl small ↦
          let fewer = trimmed_digits k n small in
          record {
            count = fewer.count;
            room = fewer.room;
            text_is = ap trimmed (hexadecimal-suc (suc k) n) ∙ trimmed_zero (hex_digit (n / 16 ^ suc k % 16)) k n (zero_digit n (suc k) small) ∙ fewer.text_is;
          }
      | inr large ↦ record { count = suc (suc k); room = below; text_is = trimmed_all (suc k) n (inr large) below }
    ]

pub hex_digits_of : (n : ℕ) → n < 2 ^ 64 → HasDigits n (trimmed (hexadecimal 16 n))
hex_digits_of n small = trimmed_digits 15 n (omega arith)
