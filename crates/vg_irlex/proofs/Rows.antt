-- Elements that are put behind others, up to the end of the text.
use Rattle.std.proofs.Common.{◌≡◌, ℕ, zero, suc, ◌+◌, ◌<◌, ◌≤◌, Bool, true, false, cond, ◌||◌, List, [], ◌∷◌, ◌++◌, length, take, drop, refl, sym, ap, subst, ◌∙◌, arith, append_assoc, length-append, length-drop}
use Rattle.std.proofs.lemmas.List.{append-nil, take_at}
use Rattle.std.proofs.Math.Seq.{drop-append_seam}
use Rattle.vg_irlex.specs.declared.lexeme.Lexeme.{Lexeme}
use Rattle.vg_irlex.specs.declared.front.Front.{Front}
use Rattle.vg_irlex.specs.declared.front.Front.TheVariants as front
use Rattle.vg_irlex.specs.Front.{front_of, Begins}
use Rattle.vg_irlex.specs.Lexing.{Element, IsPlacedAs, spelled, AreElements, is_line_feed, placed, fresh_behind, lexemes_of, Lexes}
use Rattle.vg_irlex.proofs.Found.{Means, means}

-- whether a lexeme is the first on its line behind these elements
abbrev pub fresh_after : Bool → List Element → Bool
fresh_after fresh [] = fresh
fresh_after fresh (e ∷ es) = fresh_after (fresh_behind fresh e) es

-- the text is read up to the rest, which begins at the byte `at`
pub record IsReadTo (text : List ℕ) (lexemes : List Lexeme) (rest : List ℕ) (at : ℕ) (fresh : Bool) : Type 0 where
  pub elements : List Element
  pub whole : text ≡ spelled elements ++ rest
  pub each : AreElements elements rest
  pub lexemes_are : lexemes ≡ lexemes_of 0 true elements
  pub place : at ≡ length (spelled elements)
  pub fresh_is : fresh ≡ fresh_after true elements

pub IsReadTo-start : (text : List ℕ) → IsReadTo text [] text 0 true
IsReadTo-start text = record { elements = []; whole = refl; each = tt; lexemes_are = refl; place = refl; fresh_is = refl }

spelled-append : (es : List Element) (e : Element) → spelled (es ++ e ∷ []) ≡ spelled es ++ e.text
spelled-append [] e = append-nil e.text
spelled-append (f ∷ es) e = ap (λ z. f.text ++ z) (spelled-append es e) ∙ sym (append_assoc f.text (spelled es) e.text)

each-append : (es : List Element) (e : Element) (rest : List ℕ) → AreElements es (e.text ++ rest) → IsPlacedAs e.is_lexeme e.text rest → AreElements (es ++ e ∷ []) rest
each-append [] e rest a p = (p, tt)
each-append (f ∷ es) e rest a p =
    let w : spelled es ++ (e.text ++ rest) ≡ spelled (es ++ e ∷ []) ++ rest =
    sym (append_assoc (spelled es) e.text rest) ∙ ap (λ z. z ++ rest) (sym (spelled-append es e)) in
    (subst (IsPlacedAs f.is_lexeme f.text) w a.0, each-append es e rest a.1 p)

fresh-append : (fresh : Bool) (es : List Element) (e : Element) → fresh_after fresh (es ++ e ∷ []) ≡ fresh_behind (fresh_after fresh es) e
fresh-append fresh [] e = refl
fresh-append fresh (f ∷ es) e = fresh-append (fresh_behind fresh f) es e

-- the lexeme of an element behind others
abbrev pub last_placed : ℕ → Bool → Element → List Lexeme
last_placed at fresh e = placed e.is_lexeme at (at + length e.text) fresh

lexemes-append : (at : ℕ) (fresh : Bool) (es : List Element) (e : Element)
    → lexemes_of at fresh (es ++ e ∷ []) ≡ lexemes_of at fresh es ++ last_placed (at + length (spelled es)) (fresh_after fresh es) e
lexemes-append at fresh [] e =
    let z : at ≡ at + 0 = omega arith in append-nil (last_placed at fresh e) ∙ ap (λ n. last_placed n fresh e) z
lexemes-append at fresh (f ∷ es) e =
    let next = at + length f.text in
    let n : next + length (spelled es) ≡ at + length (f.text ++ spelled es) = omega (arith, length-append f.text (spelled es)) in
    let P : ℕ → Type 0 = λ z. lexemes_of next (fresh_behind fresh f) (es ++ e ∷ [])
    ≡ lexemes_of next (fresh_behind fresh f) es ++ last_placed z (fresh_after fresh (f ∷ es)) e in
    let i = subst P n (lexemes-append next (fresh_behind fresh f) es e) in
    ap (λ z. last_placed at fresh f ++ z) i ∙ sym (append_assoc (last_placed at fresh f) (lexemes_of next (fresh_behind fresh f) es) _)

-- what stands behind the element at the front
behind_is : (rest front behind : List ℕ) (len : ℕ) → rest ≡ front ++ behind → length front ≡ len → drop len rest ≡ behind
behind_is rest front behind len e h = ap (λ n. drop n rest) (sym h) ∙ (ap (drop (length front)) e ∙ drop-append_seam front behind)

element_step : (text : List ℕ) (ls : List Lexeme) (rest : List ℕ) (at : ℕ) (fresh p : Bool) (len : ℕ) → IsReadTo text ls rest at fresh → (b : Begins rest p len)
    → IsReadTo text (ls ++ placed p at (at + len) fresh) (drop len rest) (at + len) (cond p false (fresh || is_line_feed b.text))
element_step text ls rest at fresh p len r b =
    let e : Element = record { text = b.text; is_lexeme = p } in
    let behind : drop len rest ≡ b.rest = behind_is rest b.text b.rest len b.whole b.len_is in
    let P : ℕ → Type 0 = λ n. ls ++ placed p at (at + n) fresh ≡ lexemes_of 0 true (r.elements ++ e ∷ []) in
    let Q : ℕ → Bool → Type 0 = λ n f. lexemes_of 0 true (r.elements ++ e ∷ []) ≡ lexemes_of 0 true r.elements ++ last_placed n f e in
    let z : 0 + length (spelled r.elements) ≡ at = omega (arith, r.place) in
    let l = subst (λ (n : ℕ). Q n fresh) z (subst (Q (0 + length (spelled r.elements))) (sym r.fresh_is) (lexemes-append 0 true r.elements e)) in
    record {
      elements = r.elements ++ e ∷ [];
      whole = r.whole ∙ (ap (λ x. spelled r.elements ++ x) (b.whole ∙ ap (λ x. b.text ++ x) (sym behind))
          ∙ (sym (append_assoc (spelled r.elements) b.text (drop len rest)) ∙ ap (λ x. x ++ drop len rest) (sym (spelled-append r.elements e))));
      each = each-append r.elements e (drop len rest)
          (subst (AreElements r.elements) (b.whole ∙ ap (λ x. b.text ++ x) (sym behind)) r.each)
          (subst (IsPlacedAs p b.text) (sym behind) b.placed);
      lexemes_are = subst P b.len_is (ap (λ x. x ++ placed p at (at + length b.text) fresh) r.lexemes_are ∙ sym l);
      place = omega (arith, ap length (spelled-append r.elements e), length-append (spelled r.elements) b.text, b.len_is, r.place);
      fresh_is = ap (λ f. fresh_behind f e) r.fresh_is ∙ sym (fresh-append true r.elements e);
    }

-- so far an element goes
pub begins_len : (cs : List ℕ) (p : Bool) (len : ℕ) → Begins cs p len → (0 < len) × (len ≤ length cs)
begins_len cs p len b = (b.some, omega (arith, ap length b.whole, length-append b.text b.rest, b.len_is))

front_is : (rest front behind : List ℕ) (len : ℕ) → rest ≡ front ++ behind → length front ≡ len → take len rest ≡ front
front_is rest front behind len e h = ap (λ z. take len z) e ∙ take_at front behind len h

-- behind what stands between lexemes
pub gap_step : (text : List ℕ) (ls : List Lexeme) (rest : List ℕ) (at : ℕ) (fresh : Bool) (len : ℕ) (front after : List ℕ)
    → IsReadTo text ls rest at fresh → Begins rest false len → front ≡ take len rest → after ≡ drop len rest
    → IsReadTo text ls after (at + len) (fresh || is_line_feed front)
gap_step text ls rest at fresh len front after r b f g =
    let s = element_step text ls rest at fresh false len r b in
    let k = f ∙ front_is rest b.text b.rest len b.whole b.len_is in
    let t = subst (λ (z : List Lexeme). IsReadTo text z (drop len rest) (at + len) (fresh || is_line_feed b.text)) (append-nil ls) s in
    subst (λ (z : List ℕ). IsReadTo text ls z (at + len) (fresh || is_line_feed front)) (sym g)
    (subst (λ (z : List ℕ). IsReadTo text ls (drop len rest) (at + len) (fresh || is_line_feed z)) (sym k) t)

-- behind a lexeme
pub lexeme_step : (text : List ℕ) (ls ks : List Lexeme) (rest : List ℕ) (at : ℕ) (fresh : Bool) (len : ℕ) (after : List ℕ)
    → IsReadTo text ls rest at fresh → Begins rest true len → after ≡ drop len rest → ks ≡ ls ++ record { start = at; end = at + len; fresh = fresh } ∷ []
    → IsReadTo text ks after (at + len) false
lexeme_step text ls ks rest at fresh len after r b g k =
    subst (λ (z : List ℕ). IsReadTo text ks z (at + len) false) (sym g)
    (subst (λ (z : List Lexeme). IsReadTo text z (drop len rest) (at + len) false) (sym k) (element_step text ls rest at fresh true len r b))

-- where the text ends, its lexemes are these
pub IsReadTo-end : (text : List ℕ) (ls : List Lexeme) (rest : List ℕ) (at : ℕ) (fresh : Bool) → IsReadTo text ls rest at fresh → rest ≡ [] → Lexes text ls
IsReadTo-end text ls rest at fresh r e =
    (r.elements, r.whole ∙ (ap (λ z. spelled r.elements ++ z) e ∙ append-nil (spelled r.elements)), subst (AreElements r.elements) e r.each, r.lexemes_are)

pub IsReadTo-fits : (text : List ℕ) (ls : List Lexeme) (rest : List ℕ) (at : ℕ) (fresh : Bool) → IsReadTo text ls rest at fresh → at + length rest ≡ length text
IsReadTo-fits text ls rest at fresh r = omega (arith, ap length r.whole, length-append (spelled r.elements) rest, r.place)

-- ---- each text has lexemes

reads_by : (n : ℕ) (f : Front) (text : List ℕ) (ls : List Lexeme) (at : ℕ) (fresh : Bool) (cs : List ℕ) → Means f cs → IsReadTo text ls cs at fresh
    → ((ks : List Lexeme) (rest : List ℕ) (to : ℕ) (g : Bool) → IsReadTo text ks rest to g → length rest ≤ n → (js : List Lexeme) × Lexes text js)
    → length cs ≤ n + 1 → (js : List Lexeme) × Lexes text js
reads_by n (front.Gap len) text ls at fresh cs b r go m =
    let k = begins_len cs false len b in
    go _ (drop len cs) (at + len) _ (element_step text ls cs at fresh false len r b) (omega (arith, k.0, k.1, length-drop len cs))
reads_by n (front.Lexeme len) text ls at fresh cs b r go m =
    let k = begins_len cs true len b in
    go _ (drop len cs) (at + len) _ (element_step text ls cs at fresh true len r b) (omega (arith, k.0, k.1, length-drop len cs))

reads : (n : ℕ) (text : List ℕ) (ls : List Lexeme) (rest : List ℕ) (at : ℕ) (fresh : Bool) → IsReadTo text ls rest at fresh → length rest ≤ n → (js : List Lexeme) × Lexes text js
reads n text ls [] at fresh r m = (ls, IsReadTo-end text ls [] at fresh r refl)
reads zero text ls (c ∷ cs) at fresh r m = absurd (omega arith)
reads (suc n) text ls (c ∷ cs) at fresh r m =
    reads_by n (front_of c cs) text ls at fresh (c ∷ cs) (means c cs) r (λ ks rest to g s k. reads n text ks rest to g s k) (omega arith)

pub lexes_some : (text : List ℕ) → (ls : List Lexeme) × Lexes text ls
lexes_some text = reads (length text) text [] text 0 true (IsReadTo-start text) (omega arith)
