-- One element at most stands in a place, and so a text has one list of lexemes.
use Rattle.std.proofs.Common.{◌≡◌, ℕ, Bool, true, false, not, ◌&&◌, ◌||◌, ◌==◌, List, [], ◌∷◌, ◌++◌, refl, sym, ap, subst, ◌∙◌, arith, inl, inr, IsTrue}
use Rattle.std.proofs.lemmas.List.{append_cancel_left, append-nil}
use Rattle.std.proofs.lemmas.Bool.Decides.{nat_tests}
use Rattle.std.specs.List.{list_all}
use Rattle.vg_irlex.specs.declared.lexeme.Lexeme.{Lexeme}
use Rattle.vg_irlex.specs.Lexing.{is_white, is_run_byte, is_nil, is_lexeme, ends_line, IsLexeme, IsWhite, IsComment, IsGap, Element, IsPlacedAs, spelled, AreElements, lexemes_of, Lexes}
use Rattle.vg_irlex.proofs.Lists.{false≢true, both, head, tail, fronts}

-- ---- the first byte of an element

no_single : (n : Bool) → (((false || false) || false) || (false || (n && false))) ≡ false
no_single true = refl
no_single false = refl

or_left : (a b : Bool) → a ≡ true → (a || b) ≡ true
or_left a b h = rw h refl

-- no lexeme begins with white space or `;`
begins_no_lexeme : (c : ℕ) (cs : List ℕ) → (is_white c || c == 59) ≡ true → is_lexeme (c ∷ cs) ≡ false
begins_no_lexeme c cs h =
    let a : (c == 37 || c == 64) ≡ false = grind (arith, nat_tests) in
    let q : (c == 34) ≡ false = grind (arith, nat_tests) in
    let d : (c == 99) ≡ false = grind (arith, nat_tests) in
    let r : is_run_byte c ≡ false = grind (arith, nat_tests) in
    rw (a, q, d, r, h) (no_single (is_nil cs))

-- the first byte of what stands between lexemes
gap_first : (a b : List ℕ) → IsGap a b → (c : ℕ) × (cs : List ℕ) × (a ≡ c ∷ cs) × ((is_white c || c == 59) ≡ true)
gap_first a b (inl w) = (w.0, [], w.1, or_left (is_white w.0) (w.0 == 59) w.2)
gap_first a b (inr x) = (59, x.0, x.1, refl)

gap_no_lexeme : {A : Type 0} (a b c d : List ℕ) → a ++ b ≡ c ++ d → IsGap a b → IsLexeme c d → A
gap_no_lexeme a b [] d e g l = false≢true l.spells
gap_no_lexeme a b (x ∷ c) d e g l =
    let f = gap_first a b g in
    let h : f.0 ≡ x = head f.0 x (f.1 ++ b) (c ++ d) (sym (ap (λ z. z ++ b) f.2) ∙ e) in
    let P : ℕ → Type 0 = λ z. (is_white z || z == 59) ≡ true in
    false≢true (sym (begins_no_lexeme x c (subst P h f.3)) ∙ l.spells)

longest_from : (a b c d m : List ℕ) → c ≡ a ++ m → b ≡ m ++ d → IsLexeme a b → IsLexeme c d → a ≡ c
longest_from a b c d m e f x y =
    let P : List ℕ → Type 0 = λ z. IsTrue (is_lexeme z) in
    let n : m ≡ [] = x.longest m d f (subst P e y.spells) in
    sym (e ∙ (ap (λ z. a ++ z) n ∙ append-nil a))

-- the longest lexeme in a place is one
lexemes_once : (a b c d : List ℕ) → a ++ b ≡ c ++ d → IsLexeme a b → IsLexeme c d → a ≡ c
lexemes_once a b c d e x y = elim (fronts a b c d e) [
  | inl m ↦ longest_from a b c d m.0 m.1 m.2 x y
  | inr m ↦ sym (longest_from c d a b m.0 m.1 m.2 y x)
]

white_comment : {A : Type 0} (a b c d : List ℕ) → a ++ b ≡ c ++ d → IsWhite a → IsComment c d → A
white_comment a b c d e w x =
    let h : w.0 ≡ 59 = head w.0 59 _ _ (sym (ap (λ z. z ++ b) w.1) ∙ (e ∙ ap (λ z. z ++ d) x.1)) in
    let P : ℕ → Type 0 = λ z. is_white z ≡ true in
    false≢true (subst P h w.2)

bodies_once : (x b y d : List ℕ) → x ++ b ≡ y ++ d → list_all (λ c. not (c == 10)) x ≡ true → list_all (λ c. not (c == 10)) y ≡ true
    → ends_line b ≡ true → ends_line d ≡ true → x ≡ y
bodies_once [] b [] d e hx hy hb hd = refl
bodies_once [] [] (v ∷ y) d e hx hy hb hd = absurd (cc)
bodies_once [] (c ∷ b) (v ∷ y) d e hx hy hb hd =
    let f : c ≡ v = head c v _ _ e in
    let P : ℕ → Type 0 = λ z. (z == 10) ≡ true in
    let g : (v == 10) ≡ true = subst P f hb in
    let k : not (v == 10) ≡ false = rw g refl in
    false≢true (sym k ∙ (both (not (v == 10)) (list_all (λ c. not (c == 10)) y) hy).0)
bodies_once (u ∷ x) b [] [] e hx hy hb hd = absurd (cc)
bodies_once (u ∷ x) b [] (c ∷ d) e hx hy hb hd =
    let f : c ≡ u = sym (head u c _ _ e) in
    let P : ℕ → Type 0 = λ z. (z == 10) ≡ true in
    let g : (u == 10) ≡ true = subst P f hd in
    let k : not (u == 10) ≡ false = rw g refl in
    false≢true (sym k ∙ (both (not (u == 10)) (list_all (λ c. not (c == 10)) x) hx).0)
bodies_once (u ∷ x) b (v ∷ y) d e hx hy hb hd =
    let i = bodies_once x b y d (tail u v _ _ e) (both (not (u == 10)) (list_all (λ c. not (c == 10)) x) hx).1
    (both (not (v == 10)) (list_all (λ c. not (c == 10)) y) hy).1 hb hd in
    let h : u ≡ v = head u v _ _ e in
    cc

gaps_once : (a b c d : List ℕ) → a ++ b ≡ c ++ d → IsGap a b → IsGap c d → a ≡ c
gaps_once a b c d e (inl v) (inl w) =
    v.1 ∙ (ap (λ z. z ∷ []) (head v.0 w.0 b d (sym (ap (λ z. z ++ b) v.1) ∙ (e ∙ ap (λ z. z ++ d) w.1))) ∙ sym w.1)
gaps_once a b c d e (inl v) (inr y) = white_comment a b c d e v y
gaps_once a b c d e (inr x) (inl w) = white_comment c d a b (sym e) w x
gaps_once a b c d e (inr x) (inr y) =
    let f : x.0 ++ b ≡ y.0 ++ d = tail 59 59 _ _ (sym (ap (λ z. z ++ b) x.1) ∙ (e ∙ ap (λ z. z ++ d) y.1)) in
    x.1 ∙ (ap (λ z. 59 ∷ z) (bodies_once x.0 b y.0 d f x.2 y.2 x.3 y.3) ∙ sym y.1)

placed_once : (p q : Bool) (a b c d : List ℕ) → a ++ b ≡ c ++ d → IsPlacedAs p a b → IsPlacedAs q c d → (p ≡ q) × (a ≡ c)
placed_once true true a b c d e x y = (refl, lexemes_once a b c d e x y)
placed_once true false a b c d e x y = gap_no_lexeme c d a b (sym e) y x
placed_once false true a b c d e x y = gap_no_lexeme a b c d e x y
placed_once false false a b c d e x y = (refl, gaps_once a b c d e x y)

made : List ℕ → Bool → Element
made t b = record { text = t; is_lexeme = b }

same_element : (e f : Element) → e.text ≡ f.text → e.is_lexeme ≡ f.is_lexeme → e ≡ f
unfolding made
same_element e f h k = ap (λ t. made t e.is_lexeme) h ∙ ap (λ o. made f.text o) k

-- ---- rows

-- an element has a byte
pub some_byte : (p : Bool) (a b : List ℕ) → IsPlacedAs p a b → (c : ℕ) × (cs : List ℕ) × (a ≡ c ∷ cs)
some_byte true [] b l = false≢true l.spells
some_byte true (c ∷ cs) b l = (c, cs, refl)
some_byte false a b g = let f = gap_first a b g in (f.0, f.1, f.2)

no_end : {A : Type 0} (e : Element) (es : List Element) → [] ≡ spelled (e ∷ es) → IsPlacedAs e.is_lexeme e.text (spelled es ++ []) → A
no_end e es h p =
    let s = some_byte e.is_lexeme e.text (spelled es ++ []) p in
    let g : [] ≡ s.0 ∷ (s.1 ++ spelled es) = h ∙ ap (λ z. z ++ spelled es) s.2 in
    absurd (cc)

-- a row that is all of a text is one
rows_once : (es fs : List Element) → spelled es ≡ spelled fs → AreElements es [] → AreElements fs [] → es ≡ fs
rows_once [] [] h x y = refl
rows_once [] (f ∷ fs) h x y = no_end f fs h y.0
rows_once (e ∷ es) [] h x y = no_end e es (sym h) x.0
rows_once (e ∷ es) (f ∷ fs) h x y =
    let n = append-nil (spelled es) in
    let m = append-nil (spelled fs) in
    let w : e.text ++ (spelled es ++ []) ≡ f.text ++ (spelled fs ++ []) = rw (n, m) h in
    let r = placed_once e.is_lexeme f.is_lexeme e.text (spelled es ++ []) f.text (spelled fs ++ []) w x.0 y.0 in
    let g : e ≡ f = same_element e f r.1 r.0 in
    let t : spelled es ≡ spelled fs = append_cancel_left f.text (spelled es) (spelled fs) (sym (ap (λ z. z ++ spelled es) r.1) ∙ h) in
    let i = rows_once es fs t x.1 y.1 in
    cc

-- a text has one list of lexemes at most
pub lexes_once : (text : List ℕ) (ls ks : List Lexeme) → Lexes text ls → Lexes text ks → ls ≡ ks
lexes_once text ls ks (es, h, x, l) (fs, k, y, m) =
    l ∙ (ap (lexemes_of 0 true) (rows_once es fs (sym h ∙ k) x y) ∙ sym m)
