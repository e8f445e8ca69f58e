-- A text spells one token at most, and its first character says of which class.
use Rattle.std.proofs.Common.{◌≡◌, ℕ, Bool, true, false, ◌&&◌, eqb, nat_le, List, [], ◌∷◌, ◌++◌, length, Some, None, refl, sym, ap, subst, ◌∙◌, arith}
use Rattle.std.proofs.lemmas.Bool.Decides.{nat_tests}
use Rattle.std.proofs.lemmas.List.{append_cancel_left, append_cancel_right}
use Rattle.std.specs.Char.{is_digit}
use Rattle.std.specs.List.{list_all}
use Rattle.vg_tok.specs.declared.token.Kind.{Kind}
use Rattle.vg_tok.specs.declared.token.Kind.TheVariants as kinds
use Rattle.vg_tok.specs.declared.number.Base.{Base}
use Rattle.vg_tok.specs.declared.number.Base.TheVariants.{Decimal, Hexadecimal, Binary}
use Rattle.vg_tok.specs.Tables.{reserved_words, all_signs}
use Rattle.vg_tok.specs.Lexing.{may_start, may_continue, is_name, same_text, entry_of, radix, prefix, go_on, are_digits, value_from, IsNumber, Spells}
use Rattle.vg_tok.proofs.Lists.{false≢true, both, head, tail}
use Rattle.vg_tok.proofs.Characters.{Class, Letter, Digit, Quote, Other, class, class-start, class-digit, class-quote, class-sign, is_sign_char, are_letters, name-letters}

pub same_text-same : (s t : List ℕ) → same_text s t ≡ true → s ≡ t
same_text-same [] [] h = refl
same_text-same [] (d ∷ t) h = false≢true h
same_text-same (c ∷ s) [] h = false≢true h
same_text-same (c ∷ s) (d ∷ t) h =
    let p = both (eqb c d) (same_text s t) h in
    let e : c ≡ d = grind (arith, nat_tests, p.0) in
    let f : s ≡ t = same_text-same s t p.1 in
    cc

entry_of-all-cons : {X : Type 0} (p : List ℕ → Bool) (r : List ℕ × X) (table : List (List ℕ × X)) (text : List ℕ) (x : X)
    → p r.0 ≡ true → (entry_of table text ≡ Some x → p text ≡ true) → (b : Bool) → same_text r.0 text ≡ b
    → entry_of (r ∷ table) text ≡ Some x → p text ≡ true
entry_of-all-cons p r table text x h f true s e =
    let P : List ℕ → Type 0 = λ t. p t ≡ true in subst P (same_text-same r.0 text s) h
entry_of-all-cons p r table text x h f false s e = f (rw s at e)

-- what holds of each spelling of a table
pub entry_of-all : {X : Type 0} (p : List ℕ → Bool) (table : List (List ℕ × X)) (text : List ℕ) (x : X)
    → list_all (λ (e : List ℕ × X). p e.0) table ≡ true → entry_of table text ≡ Some x → p text ≡ true
entry_of-all p [] text x h e = absurd (cc)
entry_of-all {X} p (r ∷ table) text x h e =
    let hs = both (p r.0) (list_all (λ (e : List ℕ × X). p e.0) table) h in
    entry_of-all-cons p r table text x hs.0 (λ k. entry_of-all p table text x hs.1 k) (same_text r.0 text) refl e

-- a sign has one or two characters, with which no other token begins
abbrev pub is_sign_text : List ℕ → Bool
is_sign_text [] = false
is_sign_text (c ∷ cs) = is_sign_char c && nat_le (length cs) 1

pub sign-text : (text : List ℕ) (s : _) → entry_of all_signs text ≡ Some s → is_sign_text text ≡ true
sign-text text s e = entry_of-all is_sign_text all_signs text s refl e

pub word-text : (text : List ℕ) (w : _) → entry_of reserved_words text ≡ Some w → is_name text ≡ true
word-text text w e = name-letters text (entry_of-all are_letters reserved_words text w refl e)

abbrev pub class_of : Kind → Class
class_of (kinds.Name cs) = Letter
class_of (kinds.Str cs) = Quote
class_of (kinds.Number n) = Digit
class_of (kinds.Sign s) = Other
class_of (kinds.Word w) = Letter

-- the text begins with a character of this class
pub record First (text : List ℕ) (k : Class) : Type 0 where
  pub first : ℕ
  pub others : List ℕ
  pub whole : text ≡ first ∷ others
  pub class_is : class first ≡ k

name-first : (text : List ℕ) → is_name text ≡ true → First text Letter
name-first [] h = false≢true h
name-first (c ∷ cs) h = record { first = c; others = cs; whole = refl; class_is = class-start c (both (may_start c) (list_all may_continue cs) h).0 }

digits-first : (text : List ℕ) → are_digits 10 text ≡ true → First text Digit
digits-first [] h = false≢true h
digits-first (c ∷ cs) h = record { first = c; others = cs; whole = refl; class_is = class-digit c (both (is_digit c 10) (go_on 10 cs) h).0 }

zero-first : (text others : List ℕ) → text ≡ 48 ∷ others → First text Digit
zero-first text others e = record { first = 48; others = others; whole = e; class_is = class-digit 48 refl }

number-first : (n : ℕ) (text : List ℕ) → IsNumber n text → First text Digit
number-first n text (Decimal, digits, e, h, v) = subst (λ (t : List ℕ). First t Digit) (sym e) (digits-first digits h)
number-first n text (Hexadecimal, digits, e, h, v) = zero-first text (120 ∷ digits) e
number-first n text (Binary, digits, e, h, v) = zero-first text (98 ∷ digits) e

sign-first : (text : List ℕ) → is_sign_text text ≡ true → First text Other
sign-first [] h = false≢true h
sign-first (c ∷ cs) h = record { first = c; others = cs; whole = refl; class_is = class-sign c (both (is_sign_char c) (nat_le (length cs) 1) h).0 }

pub spells-first : (k : Kind) (text : List ℕ) → Spells k text → First text (class_of k)
spells-first (kinds.Name cs) text h = name-first text h.1
spells-first (kinds.Str cs) text h = record { first = 34; others = cs ++ 34 ∷ []; whole = h.0; class_is = class-quote }
spells-first (kinds.Number n) text h = number-first n text h
spells-first (kinds.Sign s) text h = sign-first text (sign-text text s h)
spells-first (kinds.Word w) text h = name-first text (word-text text w h)

-- two tokens at one place are of one class
pub one_class : (j k : Kind) (t u v w : List ℕ) → t ++ v ≡ u ++ w → Spells j t → Spells k u → class_of j ≡ class_of k
one_class j k t u v w e s r =
    let f = spells-first j t s in
    let g = spells-first k u r in
    let h : f.first ≡ g.first = head f.first g.first (f.others ++ v) (g.others ++ w) (sym (ap (λ x. x ++ v) f.whole) ∙ (e ∙ ap (λ x. x ++ w) g.whole)) in
    sym f.class_is ∙ (ap class h ∙ g.class_is)

pub spells-letter : (k : Kind) (text : List ℕ) → Spells k text → class_of k ≡ Letter → is_name text ≡ true
spells-letter (kinds.Name cs) text h c = h.1
spells-letter (kinds.Str cs) text h c = absurd (cc)
spells-letter (kinds.Number n) text h c = absurd (cc)
spells-letter (kinds.Sign s) text h c = absurd (cc)
spells-letter (kinds.Word w) text h c = word-text text w h

-- decimal digits do not go on as a prefix does
pub no_x : (d : List ℕ) → are_digits 10 (48 ∷ 120 ∷ d) ≡ false
no_x [] = refl
no_x (c ∷ d) = refl

pub no_b : (d : List ℕ) → are_digits 10 (48 ∷ 98 ∷ d) ≡ false
no_b [] = refl
no_b (c ∷ d) = refl

value_once : (b : Base) (text d e : List ℕ) (m n : ℕ) → text ≡ prefix b ++ d → text ≡ prefix b ++ e
    → m ≡ value_from (radix b) 0 d → n ≡ value_from (radix b) 0 e → m ≡ n
value_once b text d e m n h k p q =
    let same = append_cancel_left (prefix b) d e (sym h ∙ k) in
    p ∙ (ap (value_from (radix b) 0) same ∙ sym q)

digits_not : {A : Type 0} (text d e : List ℕ) → text ≡ d → text ≡ e → are_digits 10 d ≡ true → are_digits 10 e ≡ false → A
digits_not text d e h k p q = false≢true (sym q ∙ (ap (are_digits 10) (sym k ∙ h) ∙ p))

apart : ◌≡◌ {A = ℕ} 120 98 → ⊥
apart h = omega arith

none_some : {A : Type 0} {x : A} → None ≡ Some x → ⊥
none_some h = cc

number_once : (m n : ℕ) (text : List ℕ) → IsNumber m text → IsNumber n text → m ≡ n
number_once m n text (Decimal, d, h, p, v) (Decimal, e, k, q, w) = value_once Decimal text d e m n h k v w
number_once m n text (Hexadecimal, d, h, p, v) (Hexadecimal, e, k, q, w) = value_once Hexadecimal text d e m n h k v w
number_once m n text (Binary, d, h, p, v) (Binary, e, k, q, w) = value_once Binary text d e m n h k v w
number_once m n text (Decimal, d, h, p, v) (Hexadecimal, e, k, q, w) = digits_not text d (48 ∷ 120 ∷ e) h k p (no_x e)
number_once m n text (Decimal, d, h, p, v) (Binary, e, k, q, w) = digits_not text d (48 ∷ 98 ∷ e) h k p (no_b e)
number_once m n text (Hexadecimal, d, h, p, v) (Decimal, e, k, q, w) = digits_not text e (48 ∷ 120 ∷ d) k h q (no_x d)
number_once m n text (Binary, d, h, p, v) (Decimal, e, k, q, w) = digits_not text e (48 ∷ 98 ∷ d) k h q (no_b d)
number_once m n text (Hexadecimal, d, h, p, v) (Binary, e, k, q, w) =
    absurd (apart (head 120 98 d e (tail 48 48 (120 ∷ d) (98 ∷ e) (sym h ∙ k))))
number_once m n text (Binary, d, h, p, v) (Hexadecimal, e, k, q, w) =
    absurd (apart (head 120 98 e d (tail 48 48 (120 ∷ e) (98 ∷ d) (sym k ∙ h))))

spells_same : (j k : Kind) (text : List ℕ) → class_of j ≡ class_of k → Spells j text → Spells k text → j ≡ k
spells_same (kinds.Name cs) (kinds.Name ds) text c h r = ap kinds.Name (sym h.0 ∙ r.0)
spells_same (kinds.Name cs) (kinds.Word w) text c h r = absurd (none_some (sym h.2 ∙ r))
spells_same (kinds.Word w) (kinds.Name cs) text c h r = absurd (none_some (sym r.2 ∙ h))
spells_same (kinds.Word w) (kinds.Word x) text c h r = let e : Some w ≡ Some x = sym h ∙ r in cc
spells_same (kinds.Str cs) (kinds.Str ds) text c h r =
    ap kinds.Str (append_cancel_right cs ds (34 ∷ []) (tail 34 34 (cs ++ 34 ∷ []) (ds ++ 34 ∷ []) (sym h.0 ∙ r.0)))
spells_same (kinds.Number m) (kinds.Number n) text c h r = ap kinds.Number (number_once m n text h r)
spells_same (kinds.Sign s) (kinds.Sign t) text c h r = let e : Some s ≡ Some t = sym h ∙ r in cc
spells_same j k text c h r = absurd (cc)

-- a text spells one token at most
pub spells_once : (j k : Kind) (text : List ℕ) → Spells j text → Spells k text → j ≡ k
spells_once j k text h r = spells_same j k text (one_class j k text text [] [] refl h r) h r
