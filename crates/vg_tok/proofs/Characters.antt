-- What a token's first character says of it.
use Rattle.std.proofs.Common.{◌≡◌, ℕ, ◌<◌, ◌≤◌, Bool, true, false, cond, not, ◌&&◌, ◌||◌, ◌==◌, nat_lt, List, [], ◌∷◌, refl, sym, ap, ◌∙◌, arith, lit<}
use Rattle.std.proofs.lemmas.Bool.Decides.{nat_tests}
use Rattle.std.specs.Char.{is_digit, is_ascii_alphabetic}
use Rattle.std.specs.List.{list_all}
use Rattle.unicode_ident.proofs.IdentLemmas.{is_xid_start-ascii, is_xid_continue-ascii}
use Rattle.vg_tok.specs.Lexing.{is_white, may_start, may_continue, is_name}
use Rattle.vg_tok.proofs.Lists.{is_false, false≢true, both, both-from, list_all-weaker}

pub data Class : Type 0 where
  White : Class
  Letter : Class
  Digit : Class
  Quote : Class
  Other : Class

pub class : ℕ → Class
class c = cond (is_white c) White (cond (may_start c) Letter (cond (is_digit c 10) Digit (cond (c == 34) Quote Other)))

pub may_start-ascii : (c : ℕ) → c < 128 → may_start c ≡ (c == 95 || is_ascii_alphabetic c)
may_start-ascii c h = ap (λ b. c == 95 || b) (is_xid_start-ascii c h)

white_range : (c : ℕ) → is_white c ≡ true → c < 33
white_range c h = grind (arith, nat_tests)

white_other : (c : ℕ) → is_white c ≡ true → (c == 95 || is_ascii_alphabetic c) ≡ false
white_other c h = grind (arith, nat_tests)

pub white-no_start : (c : ℕ) → is_white c ≡ true → may_start c ≡ false
white-no_start c h = let r = white_range c h in let l : c < 128 = omega arith in may_start-ascii c l ∙ white_other c h

pub start-no_white : (c : ℕ) → may_start c ≡ true → is_white c ≡ false
start-no_white c h = is_false (is_white c) (λ w. false≢true (sym (white-no_start c w) ∙ h))

pub digit_range : (c : ℕ) → is_digit c 10 ≡ true → (48 ≤ c) × (c < 58)
digit_range c h = grind (arith, nat_tests)

digit_other : (c : ℕ) → 48 ≤ c → c < 58 → (c == 95 || is_ascii_alphabetic c) ≡ false
digit_other c h k = grind (arith, nat_tests)

digit_white : (c : ℕ) → 48 ≤ c → c < 58 → is_white c ≡ false
digit_white c h k = grind (arith, nat_tests)

pub digit-no_start : (c : ℕ) → is_digit c 10 ≡ true → may_start c ≡ false
digit-no_start c h = let r = digit_range c h in let l : c < 128 = omega arith in may_start-ascii c l ∙ digit_other c r.0 r.1

pub class-start : (c : ℕ) → may_start c ≡ true → class c ≡ Letter
unfolding class
class-start c h = rw (start-no_white c h, h) refl

pub class-white : (c : ℕ) → is_white c ≡ true → class c ≡ White
unfolding class
class-white c h = rw h refl

pub class-digit : (c : ℕ) → is_digit c 10 ≡ true → class c ≡ Digit
unfolding class
class-digit c h = let r = digit_range c h in rw (digit_white c r.0 r.1, digit-no_start c h, h) refl

pub class-quote : class 34 ≡ Quote
unfolding class
class-quote = rw (is_xid_start-ascii 34 (lit< tt)) refl

-- a character with which none but a sign begins
abbrev pub is_sign_char : ℕ → Bool
is_sign_char c = nat_lt c 128 && not (((c == 95 || is_ascii_alphabetic c) || is_white c) || (is_digit c 10 || c == 34))

sign_parts : (c : ℕ) → is_sign_char c ≡ true
    → (c < 128) × ((c == 95 || is_ascii_alphabetic c) ≡ false) × (is_white c ≡ false) × (is_digit c 10 ≡ false) × ((c == 34) ≡ false)
sign_parts c h = (grind (arith, nat_tests), grind (arith, nat_tests), grind (arith, nat_tests), grind (arith, nat_tests), grind (arith, nat_tests))

pub class-sign : (c : ℕ) → is_sign_char c ≡ true → class c ≡ Other
unfolding class
class-sign c h = let p = sign_parts c h in let s = may_start-ascii c p.0 ∙ p.1 in rw (p.2, s, p.3, p.4) refl

pub class-other : (c : ℕ) → is_white c ≡ false → may_start c ≡ false → is_digit c 10 ≡ false → (c == 34) ≡ false → class c ≡ Other
unfolding class
class-other c w s d q = rw (w, s, d, q) refl

letter_range : (c : ℕ) → is_ascii_alphabetic c ≡ true → c < 128
letter_range c h = grind (arith, nat_tests)

letter_continues : (c : ℕ) → is_ascii_alphabetic c ≡ true → may_continue c ≡ true
letter_continues c h = rw (is_xid_continue-ascii c (letter_range c h)) (grind (arith, nat_tests))

letter_starts : (c : ℕ) → is_ascii_alphabetic c ≡ true → may_start c ≡ true
letter_starts c h = rw (may_start-ascii c (letter_range c h)) (grind (arith, nat_tests))

-- a name of ASCII letters
abbrev pub are_letters : List ℕ → Bool
are_letters [] = false
are_letters (c ∷ cs) = is_ascii_alphabetic c && list_all is_ascii_alphabetic cs

pub name-letters : (text : List ℕ) → are_letters text ≡ true → is_name text ≡ true
name-letters [] h = h
name-letters (c ∷ cs) h =
    let p = both (is_ascii_alphabetic c) (list_all is_ascii_alphabetic cs) h in
    both-from (may_start c) (list_all may_continue cs) (letter_starts c p.0)
    (list_all-weaker is_ascii_alphabetic may_continue letter_continues cs p.1)
