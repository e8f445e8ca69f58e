-- The text of a number tells it.
use Rattle.std.proofs.Common.{◌≡◌, ◌≢◌, ℕ, zero, suc, ◌+◌, ◌-◌, ◌*◌, ◌/◌, ◌%◌, ◌^◌, ◌<◌, ◌≤◌, ◌⊎◌, Bool, true, false, ◌&&◌, ◌||◌, eqb, IsTrue, List, [], ◌∷◌, ◌++◌, Option, Some, None, length, get_or, drop, refl, ap, sym, ◌∙◌, subst, inl, inr, arith}
use Rattle.std.specs.Prelude.{codes, decimal, if◌then◌else◌}
use Rattle.std.specs.List.{list_all}
use Rattle.std.specs.Option.{option_and_then, option_map}
use Rattle.std.specs.Int.{is_in_range}
use Rattle.std.proofs.lemmas.Bool.{and_from, and_parts, cases_Bool, eq-eqb, false≢true, ne_eqb}
use Rattle.std.proofs.lemmas.Bool.Decides.{nat_tests}
use Rattle.std.proofs.lemmas.Fmt.{decimal_by_steps_wide}
use Rattle.std.proofs.lemmas.List.{append-nil}
use Rattle.std.proofs.lemmas.List.Folds.{list_all-append}
use Rattle.std.proofs.lemmas.Option.{none-some, same_Some}
use Rattle.std.proofs.Math.Nat.{mod-eq_of_lt}
use Rattle.vg_isa.specs.declared.instr.Instr.{Instr}
use Rattle.vg_isa.specs.declared.instr.Part.{Part}
use Rattle.vg_isa.specs.declared.instr.Part.TheVariants as part
use Rattle.vg_isa.specs.declared.isa.Parts.{Parts}
use Rattle.vg_text.specs.Number.{decimal_of, hexadecimal, hexadecimal_at}
use Rattle.vg_text.proofs.Decimal.{decimal_of-decimal}
use Rattle.vg_text.proofs.Hexadecimal.{hexadecimal_at-hexadecimal, length-hexadecimal}
use Rattle.vg_grammar.specs.Line.{hex_text, is_negative, part_text, trimmed, value_of, width_of}
use Rattle.vg_grammar.specs.Numeral.{IsShort, Numeral, Whole, Minus, Hexadecimal, Forward, Back, numeral_of, numeral_text, signed_numeral, target_numeral}
use Rattle.vg_grammar.proofs.Digits.{hex_digits_of}

-- ---- digits

abbrev pub is_digit : ℕ → Bool
is_digit c = is_in_range 48 57 c

-- one digit or more
pub record AreDigits (text : List ℕ) : Type 0 where
  pub some : 0 < length text
  pub all : list_all is_digit text ≡ true

digit_is : (d : ℕ) → d < 10 → is_digit (48 + d) ≡ true
digit_is d small = grind (arith, nat_tests)

pub decimal_digits : (n : ℕ) → n < 10 ^ 64 → AreDigits (decimal n)
decimal_digits = decimal_by_steps_wide (λ _ text. AreDigits text)
    (λ n small. record { some = omega arith; all = and_from (is_digit (48 + n)) true (digit_is n small) refl })
    (λ n text large so_far. record {
      some = more text (48 + n % 10);
      all = list_all-append is_digit text ((48 + n % 10) ∷ []) ∙ and_from (list_all is_digit text) (list_all is_digit ((48 + n % 10) ∷ [])) so_far.all (and_from (is_digit (48 + n % 10)) true (digit_is (n % 10) (omega arith)) refl);
    })
  where
    more : (text : List ℕ) (c : ℕ) → 0 < length (text ++ c ∷ [])
    more [] c = omega arith
    more (b ∷ text) c = omega arith

-- ---- reading

-- all of a text as hexadecimal digits
abbrev pub hex_read : List ℕ → Option ℕ
hex_read text = option_map (λ (found : ℕ × List ℕ). found.0) (hexadecimal_at (length text) text)

abbrev pub distance_read : ℕ → List ℕ → Option Numeral
distance_read c cs = if eqb c 43 then option_map Forward (decimal_of cs) else option_map Back (decimal_of cs)

-- what a text tells by its first bytes
abbrev pub number_read : Bool → Bool → Bool → List ℕ → Option Numeral
number_read minus distance hex text =
    if minus then option_map Minus (decimal_of (drop 1 text))
    else if distance then distance_read (get_or text 1 0) (drop 2 text)
    else if hex then option_map Hexadecimal (hex_read (drop 2 text))
    else option_map Whole (decimal_of text)

pub numeral_read : List ℕ → Option Numeral
numeral_read text = number_read (eqb (get_or text 0 0) 45) (eqb (get_or text 0 0) 46) (eqb (get_or text 1 0) 120) text

hex_read_digits : (n : ℕ) → n < 2 ^ 64 → hex_read (trimmed (hexadecimal 16 n)) ≡ Some n
hex_read_digits n small =
    let digits = hex_digits_of n small in
    let len : length (trimmed (hexadecimal 16 n)) ≡ digits.count = ap (λ t. length t) digits.text_is ∙ length-hexadecimal digits.count n in
    let whole : hexadecimal digits.count n ≡ hexadecimal digits.count n ++ [] = sym (append-nil (hexadecimal digits.count n)) in
    ap (λ o. option_map (λ (found : ℕ × List ℕ). found.0) o)
    ((λ i. hexadecimal_at (len i) ((digits.text_is ∙ whole) i)) ∙ hexadecimal_at-hexadecimal digits.count n [] digits.room)

-- no digit is `-`, `.` or `x`
digit_other : (text : List ℕ) (k c : ℕ) → list_all is_digit text ≡ true → is_digit c ≡ false → 0 < c → eqb (get_or text k 0) c ≡ false
digit_other [] k c all other some = ne_eqb 0 c (λ e. omega arith)
digit_other (b ∷ text) zero c all other some =
    ne_eqb b c (λ e. false≢true (sym other ∙ ap is_digit (sym e) ∙ (and_parts (is_digit b) (list_all is_digit text) all).0))
digit_other (b ∷ text) (suc k) c all other some = digit_other text k c (and_parts (is_digit b) (list_all is_digit text) all).1 other some

whole_read : (n : ℕ) → n < 10 ^ 64 → numeral_read (decimal n) ≡ Some (Whole n)
unfolding numeral_read
whole_read n short =
    let digits = decimal_digits n short in
    let minus = digit_other (decimal n) 0 45 digits.all refl (omega arith) in
    let distance = digit_other (decimal n) 0 46 digits.all refl (omega arith) in
    let hex = digit_other (decimal n) 1 120 digits.all refl (omega arith) in
    (λ i. number_read (minus i) (distance i) (hex i) (decimal n)) ∙ ap (option_map Whole) (decimal_of-decimal n short)

-- what is written is read again
pub reads_back : (n : Numeral) → IsShort n → numeral_read (numeral_text n) ≡ Some n
unfolding numeral_read
reads_back (Whole n) short = whole_read n short
reads_back (Minus n) short = ap (option_map Minus) (decimal_of-decimal n short)
reads_back (Hexadecimal n) short = ap (option_map Hexadecimal) (hex_read_digits n short)
reads_back (Forward n) short = ap (option_map Forward) (decimal_of-decimal n short)
reads_back (Back n) short = ap (option_map Back) (decimal_of-decimal n short)

-- so two numbers with one text are one
pub one_numeral : (m n : Numeral) → IsShort m → IsShort n → numeral_text m ≡ numeral_text n → m ≡ n
one_numeral m n short brief same = same_Some _ _ (sym (reads_back m short) ∙ ap numeral_read same ∙ reads_back n brief)

-- ---- parts

if_text : (b : Bool) (m n : Numeral) → numeral_text (if b then m else n) ≡ (if b then numeral_text m else numeral_text n)
if_text true m n = refl
if_text false m n = refl

-- a part that is a number has its text
pub part_numeral : (d : Parts) (instr : Instr) (values : List ℕ) (p : Part) (n : Numeral) → numeral_of d values p ≡ Some n → part_text d instr values p ≡ numeral_text n
part_numeral d instr values (part.Lit text) n is = absurd (none-some n is)
part_numeral d instr values part.Mnemonic n is = absurd (none-some n is)
part_numeral d instr values (part.Register r f) n is = absurd (none-some n is)
part_numeral d instr values (part.Decimal f) n is = ap numeral_text (same_Some _ _ is)
part_numeral d instr values (part.Hex f) n is = ap numeral_text (same_Some _ _ is)
part_numeral d instr values (part.Signed f) n is =
    sym (if_text (is_negative (width_of d f) (value_of values f)) (Minus (2 ^ width_of d f - value_of values f)) (Whole (value_of values f))) ∙ ap numeral_text (same_Some _ _ is)
part_numeral d instr values (part.Target f power) n is =
    sym (if_text (is_negative (width_of d f) (value_of values f)) (Back ((2 ^ width_of d f - value_of values f) * 2 ^ power)) (Forward (value_of values f * 2 ^ power))) ∙ ap numeral_text (same_Some _ _ is)
