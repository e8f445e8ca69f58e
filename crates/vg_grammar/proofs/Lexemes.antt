-- The lexemes of texts one behind the other.
use Rattle.std.proofs.Common.{◌≡◌, ℕ, ◌<◌, Bool, true, false, ◌&&◌, IsTrue, List, [], ◌∷◌, ◌++◌, length, refl, ap, sym, ◌∙◌, subst, append_assoc, inl, inr, arith}
use Rattle.std.specs.Prelude.{codes, flat_map, if◌then◌else◌}
use Rattle.std.specs.List.{list_all}
use Rattle.std.proofs.lemmas.Bool.{and_parts, cases_Bool, cases_eq, false≢true, ne_eqb}
use Rattle.vg_grammar.specs.Lexeme.{begins_word, in_front, is_blank, is_word_byte, lexemes}
use Rattle.vg_grammar.specs.Line.{ends_word, gap, joined}

-- no byte of a word is a blank
pub word_not_blank : (c : ℕ) → is_word_byte c ≡ true → is_blank c ≡ false
word_not_blank c is =
    elim (cases_eq c 32) [
      | inl space ↦ absurd (false≢true (subst (λ (b : ℕ). is_word_byte b ≡ true) space is))
      | inr other ↦ elim (cases_eq c 9) [
        | inl tab ↦ absurd (false≢true (subst (λ (b : ℕ). is_word_byte b ≡ true) tab is))
        | inr neither ↦ rw (ne_eqb c 32 other, ne_eqb c 9 neither) refl
      ]
    ]

-- one byte in front of a text with these lexemes
abbrev led : Bool → Bool → Bool → ℕ → List (List ℕ) → List (List ℕ)
led blank word next c rest = if blank then rest else if word then (if next then in_front c rest else (c ∷ []) ∷ rest) else (c ∷ []) ∷ rest

in_front-append : (c : ℕ) (words more : List (List ℕ)) → 0 < length words → in_front c (words ++ more) ≡ in_front c words ++ more
in_front-append c [] more some = absurd (omega arith)
in_front-append c (word ∷ words) more some = refl

in_front_some : (c : ℕ) (words : List (List ℕ)) → 0 < length (in_front c words)
in_front_some c [] = omega arith
in_front_some c (word ∷ words) = omega arith

-- a text that begins with a byte of a word has a lexeme
led_some : (blank next : Bool) (c : ℕ) (rest : List (List ℕ)) → blank ≡ false → 0 < length (led blank true next c rest)
led_some true next c rest is = absurd (false≢true (sym is))
led_some false true c rest is = in_front_some c rest
led_some false false c rest is = omega arith

lexemes_some : (text : List ℕ) → begins_word text ≡ true → 0 < length (lexemes text)
lexemes_some [] begins = absurd (false≢true begins)
lexemes_some (c ∷ cs) begins =
    subst (λ (word : Bool). 0 < length (led (is_blank c) word (begins_word cs) c (lexemes cs))) (sym begins)
    (led_some (is_blank c) (begins_word cs) c (lexemes cs) (word_not_blank c begins))

led-append : (blank word next later : Bool) (c : ℕ) (rest more : List (List ℕ)) → (next ≡ true → 0 < length rest) → (word ≡ true → later ≡ next) → led blank word later c (rest ++ more) ≡ led blank word next c rest ++ more
led-append true word next later c rest more some same = refl
led-append false false next later c rest more some same = refl
led-append false true true later c rest more some same = rw (same refl) (in_front-append c rest more (some refl))
led-append false true false later c rest more some same = rw (same refl) refl

-- texts that don't touch as words have the lexemes of both
pub lexemes-append : (front back : List ℕ) → (ends_word front && begins_word back) ≡ false → lexemes (front ++ back) ≡ lexemes front ++ lexemes back
lexemes-append [] back apart = refl
lexemes-append (c ∷ []) back apart =
    led-append (is_blank c) (is_word_byte c) false (begins_word back) c [] (lexemes back) (λ e. absurd (false≢true e)) (λ word. rw word at apart)
lexemes-append (c ∷ e ∷ front) back apart =
    ap (λ rest. led (is_blank c) (is_word_byte c) (is_word_byte e) c rest) (lexemes-append (e ∷ front) back apart)
    ∙ led-append (is_blank c) (is_word_byte c) (is_word_byte e) (is_word_byte e) c (lexemes (e ∷ front)) (lexemes back) (lexemes_some (e ∷ front)) (λ word. refl)

-- a space between them parts them
apart_by_space : (b : Bool) → (b && false) ≡ false
apart_by_space true = refl
apart_by_space false = refl

pub lexemes-gap : (front back : List ℕ) → lexemes (front ++ gap front back ++ back) ≡ lexemes front ++ lexemes back
lexemes-gap front back =
    elim (cases_Bool (ends_word front && begins_word back)) [
      | inl touch ↦
          ap lexemes ((λ i. front ++ (if touch i then codes " " else []) ++ back) ∙ append_assoc front (codes " ") back)
          ∙ lexemes-append front (32 ∷ back) (apart_by_space (ends_word front))
      | inr apart ↦
          ap lexemes ((λ i. front ++ (if apart i then codes " " else []) ++ back) ∙ append_assoc front [] back)
          ∙ lexemes-append front back apart
    ]

-- the lexemes of texts that are joined are those of each of them
pub lexemes-joined : (texts : List (List ℕ)) → lexemes (joined texts) ≡ flat_map lexemes texts
lexemes-joined [] = refl
lexemes-joined (text ∷ texts) = lexemes-gap text (joined texts) ∙ ap (λ more. lexemes text ++ more) (lexemes-joined texts)

-- a text of bytes of words alone is one lexeme
pub one_word : (c : ℕ) (cs : List ℕ) → list_all is_word_byte (c ∷ cs) ≡ true → lexemes (c ∷ cs) ≡ (c ∷ cs) ∷ []
one_word c [] all =
    let word = (and_parts (is_word_byte c) (list_all is_word_byte []) all).0 in
    (λ i. led (word_not_blank c word i) (word i) false c [])
one_word c (e ∷ cs) all =
    let parts = and_parts (is_word_byte c) (list_all is_word_byte (e ∷ cs)) all in
    let next = (and_parts (is_word_byte e) (list_all is_word_byte cs) parts.1).0 in
    (λ i. led (word_not_blank c parts.0 i) (parts.0 i) (next i) c (one_word e cs parts.1 i))
