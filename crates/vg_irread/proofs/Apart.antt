-- Sets of kinds that are apart have no lexeme in common.
use Rattle.std.proofs.Common.{◌≡◌, ◌⊎◌, ℕ, Bool, true, false, not, ◌&&◌, ◌||◌, ◌==◌, nat_lt, nat_le, cond, List, [], ◌∷◌, ◌++◌, refl, sym, ap, subst, ◌∙◌, arith, inl, inr}
use Rattle.std.proofs.lemmas.Bool.{and_parts, or_cases, both_ways, not-true}
use Rattle.std.proofs.lemmas.Bool.Decides.{nat_tests}
use Rattle.std.proofs.lemmas.Slice.Eq.{bytes_eq-Decides}
use Rattle.std.specs.List.{list_all}
use Rattle.std.specs.Char.{is_ascii_digit}
use Rattle.vg_irlex.specs.Lexing.{are_digits, is_quoted, is_c_quoted, ends_quote, is_word_name, may_start_name, may_continue_name}
use Rattle.vg_irparse.specs.Text.{is_local, is_global, is_group, is_number, is_label}
use Rattle.vg_irparse.specs.Words.{is_one_of, same_text}
use Rattle.vg_irread.specs.Kinds.{Kind, words, c_quoted, local, global, group, digits, number, label, others, is_of, is_in, head, is_within, is_among, byte, heads, has_heads, are_apart, heads_apart, words_apart, others_apart, kinds_apart, apart}

-- one of two tests holds
pub if_cases : (b c : Bool) → cond b true c ≡ true → (b ≡ true) ⊎ (c ≡ true)
if_cases true c h = inl refl
if_cases false c h = inr h

pub if_first : (b c : Bool) → b ≡ true → cond b true c ≡ true
if_first b c h = rw h refl

pub if_second : (b c : Bool) → c ≡ true → cond b true c ≡ true
if_second true c h = refl
if_second false c h = h

pub if_none : (b c : Bool) → b ≡ false → c ≡ false → cond b true c ≡ false
if_none b c h k = rw (h, k) refl

-- a test that fails where it doesn't hold
pub fails : (b : Bool) → (b ≡ true → ⊥) → b ≡ false
fails true h = absurd (h refl)
fails false h = refl

-- ---- unions

pub in_head : (k : Kind) (ks : List Kind) (t : List ℕ) → is_of k t ≡ true → is_in (k ∷ ks) t ≡ true
in_head k ks t h = if_first (is_of k t) (is_in ks t) h

pub in_tail : (k : Kind) (ks : List Kind) (t : List ℕ) → is_in ks t ≡ true → is_in (k ∷ ks) t ≡ true
in_tail k ks t h = if_second (is_of k t) (is_in ks t) h

pub is_in-append : (zs bs : List Kind) (t : List ℕ) → is_in (zs ++ bs) t ≡ cond (is_in zs t) true (is_in bs t)
is_in-append [] bs t = refl
is_in-append (a ∷ zs) bs t = in_by (is_of a t) (is_in zs t) (is_in bs t) (is_in (zs ++ bs) t) (is_in-append zs bs t)
  where
    in_by : (x y z u : Bool) → u ≡ cond y true z → cond x true u ≡ cond (cond x true y) true z
    in_by true y z u h = refl
    in_by false y z u h = h

pub in_left : (zs bs : List Kind) (t : List ℕ) → is_in zs t ≡ true → is_in (zs ++ bs) t ≡ true
in_left zs bs t h = is_in-append zs bs t ∙ if_first (is_in zs t) (is_in bs t) h

pub in_right : (zs bs : List Kind) (t : List ℕ) → is_in bs t ≡ true → is_in (zs ++ bs) t ≡ true
in_right zs bs t h = is_in-append zs bs t ∙ if_second (is_in zs t) (is_in bs t) h

not_both : (x y : Bool) → cond x true y ≡ false → (x ≡ false) × (y ≡ false)
not_both true y h = absurd (cc)
not_both false y h = (refl, h)

pub out_of : (zs bs : List Kind) (t : List ℕ) → is_in (zs ++ bs) t ≡ false → (is_in zs t ≡ false) × (is_in bs t ≡ false)
out_of zs bs t h = not_both (is_in zs t) (is_in bs t) (sym (is_in-append zs bs t) ∙ h)

-- ---- first bytes

ranges_apart : (a b : ℕ × ℕ) (c : ℕ) → are_apart a b ≡ true → is_within a c ≡ true → is_within b c ≡ true → ⊥
ranges_apart a b c h k l =
    let p = and_parts (nat_le a.0 c) (nat_le c a.1) k in
    let q = and_parts (nat_le b.0 c) (nat_le c b.1) l in
    elim (or_cases (nat_lt a.1 b.0) (nat_lt b.1 a.0) h) [
      | inl x ↦ below a.1 b.0 c x p.1 q.0
      | inr x ↦ below b.1 a.0 c x q.1 p.0
    ]
  where
    below : (m n c : ℕ) → nat_lt m n ≡ true → nat_le c m ≡ true → nat_le n c ≡ true → ⊥
    below m n c x y z = grind (arith, nat_tests)

range_apart : (a : ℕ × ℕ) (bs : List (ℕ × ℕ)) (c : ℕ) → list_all (are_apart a) bs ≡ true → is_within a c ≡ true → is_among bs c ≡ true → ⊥
range_apart a [] c h k l = absurd (cc)
range_apart a (b ∷ bs) c h k l =
    let p = and_parts (are_apart a b) (list_all (are_apart a) bs) h in
    elim (if_cases (is_within b c) (is_among bs c) l) [
      | inl x ↦ ranges_apart a b c p.0 k x
      | inr x ↦ range_apart a bs c p.1 k x
    ]

among_apart : (zs bs : List (ℕ × ℕ)) (c : ℕ) → heads_apart zs bs ≡ true → is_among zs c ≡ true → is_among bs c ≡ true → ⊥
among_apart [] bs c h k l = absurd (cc)
among_apart (a ∷ zs) bs c h k l =
    let p = and_parts (list_all (are_apart a) bs) (heads_apart zs bs) h in
    elim (if_cases (is_within a c) (is_among zs c) k) [
      | inl x ↦ range_apart a bs c p.0 x l
      | inr x ↦ among_apart zs bs c p.1 x l
    ]

at_byte : (c d : ℕ) → (c ≡ d) → is_within (byte d) c ≡ true
at_byte c d h = grind (arith, nat_tests)

same_is : (a b : List ℕ) → same_text a b ≡ true → a ≡ b
same_is a b h = (bytes_eq-Decides a b).0 h

words_head : (ws : List (List ℕ)) (t : List ℕ) → is_one_of ws t ≡ true → is_among (heads (words ws)) (head t) ≡ true
words_head [] t h = absurd (cc)
words_head (w ∷ ws) t h =
    elim (if_cases (same_text w t) (is_one_of ws t) h) [
      | inl x ↦ if_first _ _ (at_byte (head t) (head w) (ap head (sym (same_is w t x))))
      | inr x ↦ if_second _ _ (words_head ws t x)
    ]

digit_head : (c : ℕ) → is_ascii_digit c ≡ true → is_within (48, 57) c ≡ true
digit_head c h = grind (arith, nat_tests)

digits_head : (t : List ℕ) → are_digits t ≡ true → is_within (48, 57) (head t) ≡ true
digits_head [] h = absurd (cc)
digits_head (c ∷ cs) h = digit_head c ((and_parts (is_ascii_digit c) (list_all is_ascii_digit cs) h).0)

one_byte : (d c : ℕ) (b : Bool) → ((c == d) && b) ≡ true → is_within (byte d) c ≡ true
one_byte d c b h = let p = (and_parts (c == d) b h).0 in at_byte c d (grind (arith, nat_tests))

local_head : (t : List ℕ) → is_local t ≡ true → is_among (heads local) (head t) ≡ true
local_head [] h = absurd (cc)
local_head (c ∷ cs) h = if_first _ _ (one_byte 37 c _ h)

global_head : (t : List ℕ) → is_global t ≡ true → is_among (heads global) (head t) ≡ true
global_head [] h = absurd (cc)
global_head (c ∷ cs) h = if_first _ _ (one_byte 64 c _ h)

group_head : (t : List ℕ) → is_group t ≡ true → is_among (heads group) (head t) ≡ true
group_head [] h = absurd (cc)
group_head (c ∷ cs) h = if_first _ _ (one_byte 35 c _ h)

number_by : (b : Bool) (c : ℕ) (cs : List ℕ) → (c == 45) ≡ b → is_number (c ∷ cs) ≡ true → is_among (heads number) c ≡ true
number_by true c cs k h = if_first _ _ (at_byte c 45 (grind (arith, nat_tests)))
number_by false c cs k h = if_second _ _ (if_first _ _ (digits_head (c ∷ cs) (let e : is_number (c ∷ cs) ≡ are_digits (c ∷ cs) = rw k refl in sym e ∙ h)))

number_head : (t : List ℕ) → is_number t ≡ true → is_among (heads number) (head t) ≡ true
number_head [] h = absurd (cc)
number_head (c ∷ cs) h = number_by (c == 45) c cs refl h

start_head : (c : ℕ) → may_start_name c ≡ true → is_among (heads label) c ≡ true
start_head c h = grind (arith, nat_tests)

label_head : (t : List ℕ) → is_label t ≡ true → is_among (heads label) (head t) ≡ true
label_head t h =
    elim (or_cases (is_word_name t || are_digits t) (is_quoted t) h) [
      | inl x ↦ elim (or_cases (is_word_name t) (are_digits t) x) [ inl y ↦ word_label t y | inr y ↦ if_first _ _ (digits_head t y) ]
      | inr x ↦ quoted_label t x
    ]
  where
    word_label : (t : List ℕ) → is_word_name t ≡ true → is_among (heads label) (head t) ≡ true
    word_label [] h = absurd (cc)
    word_label (c ∷ cs) h = start_head c ((and_parts (may_start_name c) (list_all may_continue_name cs) h).0)

    quoted_label : (t : List ℕ) → is_quoted t ≡ true → is_among (heads label) (head t) ≡ true
    quoted_label [] h = absurd (cc)
    quoted_label (c ∷ cs) h = let p = (and_parts (c == 34) (ends_quote cs) h).0 in let e : 34 ≡ c = grind (arith, nat_tests) in subst (λ z. is_among (heads label) z ≡ true) e refl

c_quoted_head : (t : List ℕ) → is_c_quoted t ≡ true → is_among (heads c_quoted) (head t) ≡ true
c_quoted_head [] h = absurd (cc)
c_quoted_head (c ∷ cs) h = if_first _ _ (one_byte 99 c _ h)

head_of : (k : Kind) (t : List ℕ) → has_heads k ≡ true → is_of k t ≡ true → is_among (heads k) (head t) ≡ true
head_of (words ws) t m h = words_head ws t h
head_of c_quoted t m h = c_quoted_head t h
head_of local t m h = local_head t h
head_of global t m h = global_head t h
head_of group t m h = group_head t h
head_of digits t m h = if_first _ _ (digits_head t h)
head_of number t m h = number_head t h
head_of label t m h = label_head t h
head_of (others ws) t m h = absurd (cc)

-- ---- kinds

by_heads : (a b : Kind) (t : List ℕ) → has_heads a ≡ true → has_heads b ≡ true → heads_apart (heads a) (heads b) ≡ true → is_of a t ≡ true → is_of b t ≡ true → ⊥
by_heads a b t m n h k l = among_apart (heads a) (heads b) (head t) h (head_of a t m k) (head_of b t n l)

no_word : (ws vs : List (List ℕ)) (t : List ℕ) → list_all (λ w. not (is_one_of vs w)) ws ≡ true → is_one_of ws t ≡ true → is_one_of vs t ≡ true → ⊥
no_word [] vs t h k l = absurd (cc)
no_word (w ∷ ws) vs t h k l =
    let p = and_parts (not (is_one_of vs w)) (list_all (λ v. not (is_one_of vs v)) ws) h in
    elim (if_cases (same_text w t) (is_one_of ws t) k) [
      | inl x ↦ both_ways (is_one_of vs t) (ap (is_one_of vs) (sym (same_is w t x)) ∙ not-true (is_one_of vs w) p.0) l
      | inr x ↦ no_word ws vs t p.1 x l
    ]

-- a word of the one list is one of the other
one_of_both : (ws vs : List (List ℕ)) (t : List ℕ) → list_all (is_one_of vs) ws ≡ true → is_one_of ws t ≡ true → is_one_of vs t ≡ true
one_of_both [] vs t h k = absurd (cc)
one_of_both (w ∷ ws) vs t h k =
    let p = and_parts (is_one_of vs w) (list_all (is_one_of vs) ws) h in
    elim (if_cases (same_text w t) (is_one_of ws t) k) [
      | inl x ↦ ap (is_one_of vs) (sym (same_is w t x)) ∙ p.0
      | inr x ↦ one_of_both ws vs t p.1 x
    ]

no_other : (ws vs : List (List ℕ)) (t : List ℕ) → list_all (is_one_of vs) ws ≡ true → is_one_of ws t ≡ true → not (is_one_of vs t) ≡ true → ⊥
no_other ws vs t h k l = both_ways (is_one_of vs t) (not-true (is_one_of vs t) l) (one_of_both ws vs t h k)

word_apart : (ws : List (List ℕ)) (b : Kind) (t : List ℕ) → words_apart ws b ≡ true → is_of (words ws) t ≡ true → is_of b t ≡ true → ⊥
word_apart ws (words vs) t h k l = no_word ws vs t h k l
word_apart ws c_quoted t h k l = by_heads (words ws) c_quoted t refl refl h k l
word_apart ws local t h k l = by_heads (words ws) local t refl refl h k l
word_apart ws global t h k l = by_heads (words ws) global t refl refl h k l
word_apart ws group t h k l = by_heads (words ws) group t refl refl h k l
word_apart ws digits t h k l = by_heads (words ws) digits t refl refl h k l
word_apart ws number t h k l = by_heads (words ws) number t refl refl h k l
word_apart ws label t h k l = by_heads (words ws) label t refl refl h k l
word_apart ws (others vs) t h k l = no_other ws vs t h k l

other_apart : (vs : List (List ℕ)) (b : Kind) (t : List ℕ) → others_apart vs b ≡ true → is_of (others vs) t ≡ true → is_of b t ≡ true → ⊥
other_apart vs (words ws) t h k l = no_other ws vs t h l k
other_apart vs c_quoted t h k l = absurd (cc)
other_apart vs local t h k l = absurd (cc)
other_apart vs global t h k l = absurd (cc)
other_apart vs group t h k l = absurd (cc)
other_apart vs digits t h k l = absurd (cc)
other_apart vs number t h k l = absurd (cc)
other_apart vs label t h k l = absurd (cc)
other_apart vs (others ws) t h k l = absurd (cc)

known_apart : (a b : Kind) (t : List ℕ) → has_heads a ≡ true → (has_heads b && heads_apart (heads a) (heads b)) ≡ true → is_of a t ≡ true → is_of b t ≡ true → ⊥
known_apart a b t m h k l = let p = and_parts (has_heads b) (heads_apart (heads a) (heads b)) h in by_heads a b t m p.0 p.1 k l

kind_apart : (a b : Kind) (t : List ℕ) → kinds_apart a b ≡ true → is_of a t ≡ true → is_of b t ≡ true → ⊥
kind_apart (words ws) b t h k l = word_apart ws b t h k l
kind_apart c_quoted b t h k l = known_apart c_quoted b t refl h k l
kind_apart local b t h k l = known_apart local b t refl h k l
kind_apart global b t h k l = known_apart global b t refl h k l
kind_apart group b t h k l = known_apart group b t refl h k l
kind_apart digits b t h k l = known_apart digits b t refl h k l
kind_apart number b t h k l = known_apart number b t refl h k l
kind_apart label b t h k l = known_apart label b t refl h k l
kind_apart (others vs) b t h k l = other_apart vs b t h k l

one_apart : (a : Kind) (bs : List Kind) (t : List ℕ) → list_all (kinds_apart a) bs ≡ true → is_of a t ≡ true → is_in bs t ≡ true → ⊥
one_apart a [] t h k l = absurd (cc)
one_apart a (b ∷ bs) t h k l =
    let p = and_parts (kinds_apart a b) (list_all (kinds_apart a) bs) h in
    elim (if_cases (is_of b t) (is_in bs t) l) [
      | inl x ↦ kind_apart a b t p.0 k x
      | inr x ↦ one_apart a bs t p.1 k x
    ]

never : (zs bs : List Kind) (t : List ℕ) → apart zs bs ≡ true → is_in zs t ≡ true → is_in bs t ≡ true → ⊥
never [] bs t h k l = absurd (cc)
never (a ∷ zs) bs t h k l =
    let p = and_parts (list_all (kinds_apart a) bs) (apart zs bs) h in
    elim (if_cases (is_of a t) (is_in zs t) k) [
      | inl x ↦ one_apart a bs t p.0 x l
      | inr x ↦ never zs bs t p.1 x l
    ]

-- a lexeme of the second set is of no kind of the first
pub not_in : (zs bs : List Kind) (t : List ℕ) → apart zs bs ≡ true → is_in bs t ≡ true → is_in zs t ≡ false
not_in zs bs t h l = fails (is_in zs t) (λ k. never zs bs t h k l)
