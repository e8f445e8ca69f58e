-- A row of elements grows by one at its end.
use Rattle.std.proofs.Common.{◌≡◌, ◌≢◌, inl, inr, ℕ, ◌+◌, ◌≤◌, List, [], ◌∷◌, ◌++◌, take, drop, Option, refl, sym, ap, subst, ◌∙◌, arith, append_assoc}
use Rattle.std.proofs.lemmas.List.{append-nil, take_at, drop_at}
use Rattle.vg_tok.specs.declared.token.Token.{Token}
use Rattle.vg_tok.specs.declared.token.Kind.{Kind}
use Rattle.vg_tok.specs.declared.fault.TokFault.{TokFault}
use Rattle.vg_tok.specs.declared.fault.TokFault.TheVariants as faults
use Rattle.vg_tok.specs.Lexing.{byte_len, Element, IsElement, AreElements, spelled, tokens_of, placed, AreDecoded, Lexes, IsFault, IsFaultAhead}
use Rattle.vg_tok.specs.Reading.{Begins, IsReadTo, IsFaultOr, HaveTokens, HaveFault}
use Rattle.vg_tok.proofs.Found.{byte_len-append, byte_len-take}

spelled-push : (es : List Element) (e : Element) → spelled (es ++ e ∷ []) ≡ spelled es ++ e.text
spelled-push [] e = append-nil e.text
spelled-push (f ∷ es) e = ap (λ z. f.text ++ z) (spelled-push es e) ∙ sym (append_assoc f.text (spelled es) e.text)

AreElements-push : (es : List Element) (e : Element) (rest : List ℕ) → AreElements es (e.text ++ rest) → IsElement e rest → AreElements (es ++ e ∷ []) rest
AreElements-push [] e rest x y = (y, tt)
AreElements-push (f ∷ es) e rest x y =
    let h : spelled es ++ (e.text ++ rest) ≡ spelled (es ++ e ∷ []) ++ rest =
    sym (append_assoc (spelled es) e.text rest) ∙ ap (λ z. z ++ rest) (sym (spelled-push es e)) in
    (subst (IsElement f) h x.0, AreElements-push es e rest x.1 y)

tokens_of-push : (at : ℕ) (es : List Element) (e : Element)
    → tokens_of at (es ++ e ∷ []) ≡ tokens_of at es ++ placed e.kind (at + byte_len (spelled es)) (at + byte_len (spelled es) + byte_len e.text)
tokens_of-push at [] e =
    let z : at + 0 ≡ at = omega arith in
    append-nil (placed e.kind at (at + byte_len e.text)) ∙ ap (λ n. placed e.kind n (n + byte_len e.text)) (sym z)
tokens_of-push at (f ∷ es) e =
    let next = at + byte_len f.text in
    let front = placed f.kind at next in
    let n : next + byte_len (spelled es) ≡ at + byte_len (f.text ++ spelled es) = omega (arith, byte_len-append f.text (spelled es)) in
    ap (λ z. front ++ z) (tokens_of-push next es e)
    ∙ (sym (append_assoc front (tokens_of next es) (placed e.kind (next + byte_len (spelled es)) (next + byte_len (spelled es) + byte_len e.text)))
    ∙ ap (λ m. (front ++ tokens_of next es) ++ placed e.kind m (m + byte_len e.text)) n)

pub IsReadTo-start : (cs : List ℕ) → IsReadTo cs [] cs 0
IsReadTo-start cs = record { elements = []; whole = refl; each = tt; tokens_are = refl; place = refl }

pub IsReadTo-fits : (cs : List ℕ) (ts : List Token) (rest : List ℕ) (at : ℕ) → IsReadTo cs ts rest at → at + byte_len rest ≡ byte_len cs
IsReadTo-fits cs ts rest at r = omega (arith, r.place, ap byte_len r.whole ∙ byte_len-append (spelled r.elements) rest)

pub IsReadTo-more : (cs : List ℕ) (ts : List Token) (rest : List ℕ) (at : ℕ) (k : Option Kind) (n : ℕ) → IsReadTo cs ts rest at → Begins rest k n
    → IsReadTo cs (ts ++ placed k at (at + byte_len (take n rest))) (drop n rest) (at + byte_len (take n rest))
IsReadTo-more cs ts rest at k n r b =
    let e : Element = record { text = b.text; kind = k } in
    let t : take n rest ≡ b.text = ap (take n) b.whole ∙ take_at b.text b.rest n b.len_is in
    let d : drop n rest ≡ b.rest = ap (drop n) b.whole ∙ drop_at b.text b.rest n b.len_is in
    let l : byte_len (take n rest) ≡ byte_len b.text = ap byte_len t in
    let es = r.elements in
    let w : cs ≡ spelled (es ++ e ∷ []) ++ b.rest =
    r.whole ∙ (ap (λ z. spelled es ++ z) b.whole ∙ (sym (append_assoc (spelled es) b.text b.rest) ∙ ap (λ z. z ++ b.rest) (sym (spelled-push es e)))) in
    let a : AreElements es (b.text ++ b.rest) = subst (AreElements es) b.whole r.each in
    let q : ts ++ placed k at (at + byte_len b.text) ≡ tokens_of 0 (es ++ e ∷ []) =
    ap (λ z. z ++ placed k at (at + byte_len b.text)) r.tokens_are
    ∙ (ap (λ m. tokens_of 0 es ++ placed k m (m + byte_len b.text)) (r.place ∙ omega arith) ∙ sym (tokens_of-push 0 es e)) in
    let m : at + byte_len b.text ≡ byte_len (spelled (es ++ e ∷ [])) =
    omega (arith, r.place, ap byte_len (spelled-push es e) ∙ byte_len-append (spelled es) b.text) in
    record {
      elements = es ++ e ∷ [];
      whole = w ∙ ap (λ z. spelled (es ++ e ∷ []) ++ z) (sym d);
      each = subst (AreElements (es ++ e ∷ [])) (sym d) (AreElements-push es e b.rest a b.element);
      tokens_are = ap (λ z. ts ++ placed k at (at + z)) l ∙ q;
      place = ap (λ z. at + z) l ∙ m;
    }

pub HaveTokens-all : (cs behind : List ℕ) (ts : List Token) (rest : List ℕ) (at : ℕ) → IsReadTo cs ts rest at → rest ≡ [] → behind ≡ [] → HaveTokens cs behind ts
HaveTokens-all cs behind ts rest at r e b =
    (r.elements, r.whole ∙ (ap (λ z. spelled r.elements ++ z) e ∙ append-nil (spelled r.elements)), subst (AreElements r.elements) e r.each, r.tokens_are, b)

pub HaveFault-ahead : (cs behind : List ℕ) (ts : List Token) (rest : List ℕ) (at : ℕ) (fault : TokFault) → IsReadTo cs ts rest at
    → IsFaultAhead at rest behind fault → HaveFault cs behind fault
HaveFault-ahead cs behind ts rest at fault r f =
    (r.elements, rest, r.whole, r.each, subst (λ (n : ℕ). IsFaultAhead n rest behind fault) r.place f)

pub HaveFault-or : (cs behind : List ℕ) (ts : List Token) (rest : List ℕ) (at : ℕ) (fault : TokFault) → IsReadTo cs ts rest at
    → IsFaultOr fault (IsFaultAhead at rest behind fault) → IsFaultOr fault (HaveFault cs behind fault)
HaveFault-or cs behind ts rest at fault r (inl e) = inl e
HaveFault-or cs behind ts rest at fault r (inr f) = inr (HaveFault-ahead cs behind ts rest at fault r f)

pub HaveFault-behind : (cs behind : List ℕ) (ts : List Token) (rest : List ℕ) (at : ℕ) → IsReadTo cs ts rest at → rest ≡ [] → behind ≢ []
    → HaveFault cs behind (faults.NotUtf8 at)
HaveFault-behind cs behind ts rest at r e b =
    let z : at ≡ at + byte_len rest = omega (arith, ap byte_len e) in
    HaveFault-ahead cs behind ts rest at (faults.NotUtf8 at) r (z, b, inl e)

pub Lexes-decoded : (bytes cs behind : List ℕ) (ts : List Token) → AreDecoded bytes cs behind → HaveTokens cs behind ts → Lexes bytes ts
Lexes-decoded bytes cs behind ts d (es, w, a, t, b) =
    (es, subst (λ (x : List ℕ). AreDecoded bytes x []) w (subst (λ (x : List ℕ). AreDecoded bytes cs x) b d), a, t)

pub IsFault-decoded : (bytes cs behind : List ℕ) (fault : TokFault) → AreDecoded bytes cs behind → HaveFault cs behind fault → IsFault bytes fault
IsFault-decoded bytes cs behind fault d (es, ahead, w, a, f) =
    (es, ahead, behind, subst (λ (x : List ℕ). AreDecoded bytes x behind) w d, a, f)

pub IsFault-or : (bytes cs behind : List ℕ) (fault : TokFault) → AreDecoded bytes cs behind → IsFaultOr fault (HaveFault cs behind fault) → IsFaultOr fault (IsFault bytes fault)
IsFault-or bytes cs behind fault d (inl e) = inl e
IsFault-or bytes cs behind fault d (inr f) = inr (IsFault-decoded bytes cs behind fault d f)

-- the step of the loop: an element is read, and its token is added where it is one
pub IsReadTo-step : (cs : List ℕ) (ts us : List Token) (rest text after : List ℕ) (at len : ℕ) (k : Option Kind) (n : ℕ) → IsReadTo cs ts rest at → Begins rest k n
    → text ≡ take n rest → after ≡ drop n rest → len ≡ byte_len text → us ≡ ts ++ placed k at (at + len) → IsReadTo cs us after (at + len)
IsReadTo-step cs ts us rest text after at len k n r b t a l u =
    let e : len ≡ byte_len (take n rest) = l ∙ ap byte_len t in
    let v : us ≡ ts ++ placed k at (at + byte_len (take n rest)) = u ∙ ap (λ z. ts ++ placed k at (at + z)) e in
    let p = IsReadTo-more cs ts rest at k n r b in
    subst (λ (z : ℕ). IsReadTo cs us after (at + z)) (sym e)
    (subst (λ (z : List ℕ). IsReadTo cs us z (at + byte_len (take n rest))) (sym a)
    (subst (λ (z : List Token). IsReadTo cs z (drop n rest) (at + byte_len (take n rest))) (sym v) p))

pub byte_len-front : (n : ℕ) (rest text : List ℕ) (k : Option Kind) → Begins rest k n → text ≡ take n rest → byte_len text ≤ byte_len rest
byte_len-front n rest text k b t = rw t ((byte_len-take n rest b.text b.rest b.whole b.len_is).1)
