-- A text has one list of tokens, or else one first fault.
use Rattle.std.proofs.Common.{◌≡◌, ◌⊎◌, inl, inr, ℕ, ◌+◌, ◌^◌, ◌<◌, ◌≤◌, Bool, true, false, ◌&&◌, ◌||◌, ◌==◌, List, [], ◌∷◌, ◌++◌, Option, Some, None, refl, sym, ap, subst, ◌∙◌, arith, append_assoc}
use Rattle.std.proofs.lemmas.List.{append-nil}
use Rattle.std.proofs.lemmas.Str.{encode_same}
use Rattle.std.specs.Char.{encode_utf8}
use Rattle.std.specs.Str.{encode_utf8_all, all_scalars, StartsWithNoChar}
use Rattle.vg_tok.specs.declared.token.Kind.{Kind}
use Rattle.vg_tok.specs.declared.token.Kind.TheVariants as kinds
use Rattle.vg_tok.specs.declared.token.Token.{Token}
use Rattle.vg_tok.specs.declared.sign.Sign.TheVariants.{Slash}
use Rattle.vg_tok.specs.declared.fault.TokFault.{TokFault}
use Rattle.vg_tok.specs.declared.fault.TokFault.TheVariants as faults
use Rattle.vg_tok.specs.Lexing.{is_white, may_continue, begins_with, begins_comment, has_close, IsGap, IsLongest, IsFit, IsToken, Element, IsElement, AreElements, spelled, byte_len, tokens_of, AreDecoded, Lexes, BeginsNothing, IsOpen, IsWide, IsRunOn, IsFaultAhead, IsFault}
use Rattle.vg_tok.proofs.Lists.{false≢true, both, head, tail}
use Rattle.vg_tok.proofs.Spelled.{spells-first}
use Rattle.vg_tok.proofs.Elements.{apart, longest_once, gap_no_token, not_white, block_text, element_once}

-- A number at the front of a text is nothing else.

abbrev HasNumber : List ℕ → ℕ → List ℕ → List ℕ → Type 0
HasNumber cs n text rest = (cs ≡ text ++ rest) × IsLongest (kinds.Number n) text rest

number_not_nil : {A : Type 0} (cs : List ℕ) (n : ℕ) (text rest : List ℕ) → HasNumber cs n text rest → cs ≡ [] → A
number_not_nil cs n text rest h e =
    let f = spells-first (kinds.Number n) text h.1.spells in
    let g : f.first ∷ (f.others ++ rest) ≡ [] = sym (ap (λ z. z ++ rest) f.whole) ∙ (sym h.0 ∙ e) in
    absurd (cc)

number_not_open : {A : Type 0} (cs : List ℕ) (n : ℕ) (text rest : List ℕ) → HasNumber cs n text rest → IsOpen cs → A
number_not_open cs n text rest h o = false≢true (sym h.1.no_comment ∙ ap begins_comment (sym h.0 ∙ o.1))

number_not_nothing : {A : Type 0} (cs : List ℕ) (n : ℕ) (text rest : List ℕ) → HasNumber cs n text rest → BeginsNothing cs → A
number_not_nothing cs n text rest h b = absurd (b.no_token (kinds.Number n) text rest h.0 h.1.spells)

small_large : {A : Type 0} (m n l : ℕ) → m ≡ n → m < l → l ≤ n → A
small_large m n l e h k = absurd (omega arith)

value_same : (m n : ℕ) → kinds.Number m ≡ kinds.Number n → m ≡ n
value_same m n e = cc

wide_not_run_on : {A : Type 0} (cs text : List ℕ) → IsWide cs → IsRunOn cs text → A
wide_not_run_on cs text w r =
    let l = longest_once (kinds.Number r.0) (kinds.Number w.0) text r.1 w.1 w.2 (sym r.2 ∙ w.3) r.3 w.4 in
    small_large r.0 w.0 (2 ^ 128) (value_same r.0 w.0 l.0) r.4 w.5

-- An open comment is nothing else.

open_not_nil : {A : Type 0} (cs : List ℕ) → IsOpen cs → cs ≡ [] → A
open_not_nil cs o e = let g : 47 ∷ 42 ∷ o.0 ≡ [] = sym o.1 ∙ e in absurd (cc)

open_not_nothing : {A : Type 0} (cs : List ℕ) → IsOpen cs → BeginsNothing cs → A
open_not_nothing cs o b = absurd (b.no_token (kinds.Sign Slash) (47 ∷ []) (42 ∷ o.0) o.1 refl)

or_true : (a : Bool) {b : Bool} → b ≡ true → (a || b) ≡ true
or_true true h = refl
or_true false h = h

has_close-append : (x r : List ℕ) → has_close (x ++ (42 ∷ 47 ∷ r)) ≡ true
has_close-append [] r = refl
has_close-append (c ∷ []) r = or_true (c == 42 && 42 == 47) (has_close-append [] r)
has_close-append (c ∷ d ∷ x) r = or_true (c == 42 && d == 47) (has_close-append (d ∷ x) r)

open_no_gap : {A : Type 0} (cs a b : List ℕ) → IsOpen cs → cs ≡ a ++ b → IsGap a b → A
open_no_gap cs a b o e (inl w) = not_white w.0 (head w.0 47 b (42 ∷ o.0) (sym (ap (λ z. z ++ b) w.1) ∙ (sym e ∙ o.1))) w.2
open_no_gap cs a b o e (inr (inl x)) = absurd (apart (head 47 42 _ _ (tail 47 47 _ _ (sym (ap (λ z. z ++ b) x.1) ∙ (sym e ∙ o.1)))))
open_no_gap cs a b o e (inr (inr y)) =
    let f : o.0 ≡ y.0 ++ (42 ∷ 47 ∷ b) = tail 42 42 _ _ (tail 47 47 _ _ (sym o.1 ∙ (e ∙ block_text a b y))) in
    false≢true (sym o.2 ∙ (ap has_close f ∙ has_close-append y.0 b))

open_no_token : {A : Type 0} (cs a b : List ℕ) (k : Kind) → IsOpen cs → cs ≡ a ++ b → IsLongest k a b → A
open_no_token cs a b k o e t = false≢true (sym t.no_comment ∙ ap begins_comment (sym e ∙ o.1))

-- Where no element stands.

nothing_no_gap : {A : Type 0} (cs a b : List ℕ) → BeginsNothing cs → cs ≡ a ++ b → IsGap a b → A
nothing_no_gap cs a b n e (inl w) =
    false≢true (sym n.no_white ∙ (ap (begins_with is_white) (e ∙ ap (λ z. z ++ b) w.1) ∙ w.2))
nothing_no_gap cs a b n e (inr (inl x)) = absurd (n.no_token (kinds.Sign Slash) (47 ∷ []) (47 ∷ (x.0 ++ b)) (e ∙ ap (λ z. z ++ b) x.1) refl)
nothing_no_gap cs a b n e (inr (inr y)) = absurd (n.no_token (kinds.Sign Slash) (47 ∷ []) (42 ∷ (y.0 ++ (42 ∷ 47 ∷ b))) (e ∙ block_text a b y) refl)

-- what ends a row of elements: nothing is ahead, or a fault
abbrev Ends : ℕ → List ℕ → List ℕ → Option TokFault → Type 0
Ends at cs behind None = (cs ≡ []) × (behind ≡ [])
Ends at cs behind (Some f) = IsFaultAhead at cs behind f

fit_not_run_on : {A : Type 0} (cs a b text : List ℕ) (k : Kind) → cs ≡ a ++ b → IsToken k a b → IsRunOn cs text → A
fit_not_run_on cs a b text k e t r =
    let l = longest_once k (kinds.Number r.0) a b text r.1 (sym e ∙ r.2) t.0 r.3 in
    let f : IsFit (kinds.Number r.0) b = subst (λ (j : Kind). IsFit j b) l.0 t.1 in
    false≢true (sym f.1 ∙ (ap (begins_with may_continue) l.2 ∙ r.5))

fit_not_wide : {A : Type 0} (cs a b : List ℕ) (k : Kind) → cs ≡ a ++ b → IsToken k a b → IsWide cs → A
fit_not_wide cs a b k e t w =
    let l = longest_once k (kinds.Number w.0) a b w.1 w.2 (sym e ∙ w.3) t.0 w.4 in
    let f : IsFit (kinds.Number w.0) b = subst (λ (j : Kind). IsFit j b) l.0 t.1 in
    small_large w.0 w.0 (2 ^ 128) refl f.0 w.5

gap_not_nil : {A : Type 0} (cs a b : List ℕ) → cs ≡ a ++ b → IsGap a b → cs ≡ [] → A
gap_not_nil cs a b e (inl w) n = let g : w.0 ∷ b ≡ [] = sym (ap (λ z. z ++ b) w.1) ∙ (sym e ∙ n) in absurd (cc)
gap_not_nil cs a b e (inr (inl x)) n = let g : 47 ∷ 47 ∷ (x.0 ++ b) ≡ [] = sym (ap (λ z. z ++ b) x.1) ∙ (sym e ∙ n) in absurd (cc)
gap_not_nil cs a b e (inr (inr y)) n = let g : 47 ∷ 42 ∷ (y.0 ++ (42 ∷ 47 ∷ b)) ≡ [] = sym (block_text a b y) ∙ (sym e ∙ n) in absurd (cc)

token_not_nil : {A : Type 0} (cs a b : List ℕ) (k : Kind) → cs ≡ a ++ b → IsLongest k a b → cs ≡ [] → A
token_not_nil cs a b k e t n =
    let f = spells-first k a t.spells in
    let g : f.first ∷ (f.others ++ b) ≡ [] = sym (ap (λ z. z ++ b) f.whole) ∙ (sym e ∙ n) in
    absurd (cc)

gap_no_end : {A : Type 0} (at : ℕ) (cs a b behind : List ℕ) (o : Option TokFault) → cs ≡ a ++ b → IsGap a b → Ends at cs behind o → A
gap_no_end at cs a b behind None e g h = gap_not_nil cs a b e g h.0
gap_no_end at cs a b behind (Some (faults.NotUtf8 p)) e g (_, _, inl h) = gap_not_nil cs a b e g h
gap_no_end at cs a b behind (Some (faults.NotUtf8 p)) e g (_, _, inr h) = open_no_gap cs a b h.0 e g
gap_no_end at cs a b behind (Some (faults.BadChar p)) e g (inl (_, inl h)) = nothing_no_gap cs a b h e g
gap_no_end at cs a b behind (Some (faults.BadChar p)) e g (inl (_, inr h)) = open_no_gap cs a b h.0 e g
gap_no_end at cs a b behind (Some (faults.BadChar p)) e g (inr (t, _, h)) = gap_no_token (kinds.Number h.0) a b t h.1 (sym e ∙ h.2) g h.3
gap_no_end at cs a b behind (Some (faults.Wide p)) e g (_, h) = gap_no_token (kinds.Number h.0) a b h.1 h.2 (sym e ∙ h.3) g h.4
gap_no_end at cs a b behind (Some faults.OutOfMemory) e g h = absurd h

token_no_end : {A : Type 0} (at : ℕ) (cs a b behind : List ℕ) (k : Kind) (o : Option TokFault) → cs ≡ a ++ b → IsToken k a b → Ends at cs behind o → A
token_no_end at cs a b behind k None e t h = token_not_nil cs a b k e t.0 h.0
token_no_end at cs a b behind k (Some (faults.NotUtf8 p)) e t (_, _, inl h) = token_not_nil cs a b k e t.0 h
token_no_end at cs a b behind k (Some (faults.NotUtf8 p)) e t (_, _, inr h) = open_no_token cs a b k h.0 e t.0
token_no_end at cs a b behind k (Some (faults.BadChar p)) e t (inl (_, inl h)) = absurd (h.no_token k a b e t.0.spells)
token_no_end at cs a b behind k (Some (faults.BadChar p)) e t (inl (_, inr h)) = open_no_token cs a b k h.0 e t.0
token_no_end at cs a b behind k (Some (faults.BadChar p)) e t (inr (u, _, h)) = fit_not_run_on cs a b u k e t h
token_no_end at cs a b behind k (Some (faults.Wide p)) e t (_, h) = fit_not_wide cs a b k e t h
token_no_end at cs a b behind k (Some faults.OutOfMemory) e t h = absurd h

element_no_end : {A : Type 0} (at : ℕ) (cs a b behind : List ℕ) (k : Option Kind) (o : Option TokFault) → cs ≡ a ++ b
    → IsElement (record { text = a; kind = k }) b → Ends at cs behind o → A
element_no_end at cs a b behind None o e x h = gap_no_end at cs a b behind o e x h
element_no_end at cs a b behind (Some k) o e x h = token_no_end at cs a b behind k o e x h

-- One end at most.

nil_not_bad : {A : Type 0} (at : ℕ) (cs behind : List ℕ) (p : ℕ) → cs ≡ [] → IsFaultAhead at cs behind (faults.BadChar p) → A
nil_not_bad at cs behind p e (inl (_, inl n)) = absurd (n.some e)
nil_not_bad at cs behind p e (inl (_, inr o)) = open_not_nil cs o.0 e
nil_not_bad at cs behind p e (inr (t, _, r)) = number_not_nil cs r.0 t r.1 (r.2, r.3) e

nil_ends : {A : Type 0} (at : ℕ) (cs behind : List ℕ) (f : TokFault) → cs ≡ [] → behind ≡ [] → IsFaultAhead at cs behind f → A
nil_ends at cs behind (faults.NotUtf8 p) e b (_, h, _) = absurd (h b)
nil_ends at cs behind (faults.BadChar p) e b h = nil_not_bad at cs behind p e h
nil_ends at cs behind (faults.Wide p) e b (_, w) = number_not_nil cs w.0 w.1 w.2 (w.3, w.4) e
nil_ends at cs behind faults.OutOfMemory e b h = absurd h

utf8_not_bad : {A : Type 0} (at p q : ℕ) (cs behind : List ℕ) → IsFaultAhead at cs behind (faults.NotUtf8 p) → IsFaultAhead at cs behind (faults.BadChar q) → A
utf8_not_bad at p q cs behind (_, _, inl e) h = nil_not_bad at cs behind q e h
utf8_not_bad at p q cs behind (_, _, inr (o, b)) (inl (_, inl n)) = open_not_nothing cs o n
utf8_not_bad at p q cs behind (_, _, inr (o, b)) (inl (_, inr (_, c))) = false≢true (sym c ∙ b)
utf8_not_bad at p q cs behind (_, _, inr (o, b)) (inr (t, _, r)) = number_not_open cs r.0 t r.1 (r.2, r.3) o

utf8_not_wide : {A : Type 0} (at p q : ℕ) (cs behind : List ℕ) → IsFaultAhead at cs behind (faults.NotUtf8 p) → IsFaultAhead at cs behind (faults.Wide q) → A
utf8_not_wide at p q cs behind (_, _, inl e) (_, w) = number_not_nil cs w.0 w.1 w.2 (w.3, w.4) e
utf8_not_wide at p q cs behind (_, _, inr (o, b)) (_, w) = number_not_open cs w.0 w.1 w.2 (w.3, w.4) o

bad_not_wide : {A : Type 0} (at p q : ℕ) (cs behind : List ℕ) → IsFaultAhead at cs behind (faults.BadChar p) → IsFaultAhead at cs behind (faults.Wide q) → A
bad_not_wide at p q cs behind (inl (_, inl n)) (_, w) = number_not_nothing cs w.0 w.1 w.2 (w.3, w.4) n
bad_not_wide at p q cs behind (inl (_, inr (o, _))) (_, w) = number_not_open cs w.0 w.1 w.2 (w.3, w.4) o
bad_not_wide at p q cs behind (inr (t, _, r)) (_, w) = wide_not_run_on cs t w r

early_not_late : {A : Type 0} (cs behind text : List ℕ) → BeginsNothing cs ⊎ (IsOpen cs × (has_close behind ≡ false)) → IsRunOn cs text → A
early_not_late cs behind text (inl n) r = number_not_nothing cs r.0 text r.1 (r.2, r.3) n
early_not_late cs behind text (inr o) r = number_not_open cs r.0 text r.1 (r.2, r.3) o.0

bad_once : (at p q : ℕ) (cs behind : List ℕ) → IsFaultAhead at cs behind (faults.BadChar p) → IsFaultAhead at cs behind (faults.BadChar q) → p ≡ q
bad_once at p q cs behind (inl (e, _)) (inl (f, _)) = e ∙ sym f
bad_once at p q cs behind (inl (_, h)) (inr (t, _, r)) = early_not_late cs behind t h r
bad_once at p q cs behind (inr (t, _, r)) (inl (_, h)) = early_not_late cs behind t h r
bad_once at p q cs behind (inr (t, e, r)) (inr (u, f, s)) =
    let l = longest_once (kinds.Number r.0) (kinds.Number s.0) t r.1 u s.1 (sym r.2 ∙ s.2) r.3 s.3 in
    e ∙ (ap (λ z. at + byte_len z) l.1 ∙ sym f)

fault_once : (at : ℕ) (cs behind : List ℕ) (f g : TokFault) → IsFaultAhead at cs behind f → IsFaultAhead at cs behind g → f ≡ g
fault_once at cs behind (faults.NotUtf8 p) (faults.NotUtf8 q) x y = ap faults.NotUtf8 (x.0 ∙ sym y.0)
fault_once at cs behind (faults.NotUtf8 p) (faults.BadChar q) x y = utf8_not_bad at p q cs behind x y
fault_once at cs behind (faults.NotUtf8 p) (faults.Wide q) x y = utf8_not_wide at p q cs behind x y
fault_once at cs behind (faults.BadChar p) (faults.NotUtf8 q) x y = utf8_not_bad at q p cs behind y x
fault_once at cs behind (faults.BadChar p) (faults.BadChar q) x y = ap faults.BadChar (bad_once at p q cs behind x y)
fault_once at cs behind (faults.BadChar p) (faults.Wide q) x y = bad_not_wide at p q cs behind x y
fault_once at cs behind (faults.Wide p) (faults.NotUtf8 q) x y = utf8_not_wide at q p cs behind y x
fault_once at cs behind (faults.Wide p) (faults.BadChar q) x y = bad_not_wide at q p cs behind y x
fault_once at cs behind (faults.Wide p) (faults.Wide q) x y = ap faults.Wide (x.0 ∙ sym y.0)
fault_once at cs behind f faults.OutOfMemory x y = absurd y
fault_once at cs behind faults.OutOfMemory g x y = absurd x

end_once : (at : ℕ) (cs behind : List ℕ) (o p : Option TokFault) → Ends at cs behind o → Ends at cs behind p → o ≡ p
end_once at cs behind None None x y = refl
end_once at cs behind None (Some g) x y = nil_ends at cs behind g x.0 x.1 y
end_once at cs behind (Some f) None x y = nil_ends at cs behind f y.0 y.1 x
end_once at cs behind (Some f) (Some g) x y = ap Some (fault_once at cs behind f g x y)

-- One row of elements at most.

rows_once : (es fs : List Element) (cs ds behind : List ℕ) (i j : ℕ) (o p : Option TokFault) → spelled es ++ cs ≡ spelled fs ++ ds
    → AreElements es cs → AreElements fs ds → Ends i cs behind o → Ends j ds behind p → (es ≡ fs) × (cs ≡ ds)
rows_once [] [] cs ds behind i j o p e x y m n = (refl, e)
rows_once [] (f ∷ fs) cs ds behind i j o p e x y m n =
    element_no_end i cs f.text (spelled fs ++ ds) behind f.kind o (e ∙ append_assoc f.text (spelled fs) ds) y.0 m
rows_once (f ∷ es) [] cs ds behind i j o p e x y m n =
    element_no_end j ds f.text (spelled es ++ cs) behind f.kind p (sym e ∙ append_assoc f.text (spelled es) cs) x.0 n
rows_once (f ∷ es) (g ∷ fs) cs ds behind i j o p e x y m n =
    let h = sym (append_assoc f.text (spelled es) cs) ∙ (e ∙ append_assoc g.text (spelled fs) ds) in
    let l = element_once f g (spelled es ++ cs) (spelled fs ++ ds) h x.0 y.0 in
    let r = rows_once es fs cs ds behind i j o p l.1 x.1 y.1 m n in
    let a : f ≡ g = l.0 in
    let b : es ≡ fs = r.0 in
    (cc, r.1)

decoded_same : (cs ds b d : List ℕ) → all_scalars cs ≡ true → all_scalars ds ≡ true → StartsWithNoChar b → StartsWithNoChar d
    → encode_utf8_all cs ++ b ≡ encode_utf8_all ds ++ d → (cs ≡ ds) × (b ≡ d)
decoded_same [] [] b d s t n m e = (refl, e)
decoded_same [] (y ∷ ds) b d s t n m e =
    absurd (n y (encode_utf8_all ds ++ d) (both _ (all_scalars ds) t).0 (e ∙ append_assoc (encode_utf8 y) (encode_utf8_all ds) d))
decoded_same (x ∷ cs) [] b d s t n m e =
    absurd (m x (encode_utf8_all cs ++ b) (both _ (all_scalars cs) s).0 (sym e ∙ append_assoc (encode_utf8 x) (encode_utf8_all cs) b))
decoded_same (x ∷ cs) (y ∷ ds) b d s t n m e =
    let h = encode_same x y (encode_utf8_all cs ++ b) (encode_utf8_all ds ++ d)
    (sym (append_assoc (encode_utf8 x) (encode_utf8_all cs) b) ∙ (e ∙ append_assoc (encode_utf8 y) (encode_utf8_all ds) d)) in
    let r = decoded_same cs ds b d (both _ (all_scalars cs) s).1 (both _ (all_scalars ds) t).1 n m h.1 in
    let a : x ≡ y = h.0 in
    let c : cs ≡ ds = r.0 in
    (cc, r.1)

pub decoded_once : (bytes cs ds b d : List ℕ) → AreDecoded bytes cs b → AreDecoded bytes ds d → (cs ≡ ds) × (b ≡ d)
decoded_once bytes cs ds b d x y = decoded_same cs ds b d x.scalars y.scalars x.stuck y.stuck (sym x.whole ∙ y.whole)

record Reading (bytes : List ℕ) (es : List Element) (o : Option TokFault) : Type 0 where
  ahead : List ℕ
  behind : List ℕ
  decoded : AreDecoded bytes (spelled es ++ ahead) behind
  each : AreElements es ahead
  ends : Ends (byte_len (spelled es)) ahead behind o

reading_once : (bytes : List ℕ) (es fs : List Element) (o p : Option TokFault) → Reading bytes es o → Reading bytes fs p → (es ≡ fs) × (o ≡ p)
reading_once bytes es fs o p x y =
    let d = decoded_once bytes _ _ x.behind y.behind x.decoded y.decoded in
    let n = subst (λ (b : List ℕ). Ends (byte_len (spelled fs)) y.ahead b p) (sym d.1) y.ends in
    let r = rows_once es fs x.ahead y.ahead x.behind _ _ o p d.0 x.each y.each x.ends n in
    let m = subst (λ (a : List ℕ). Ends (byte_len (spelled fs)) a x.behind p) (sym r.1) n in
    let k = subst (λ (gs : List Element). Ends (byte_len (spelled gs)) x.ahead x.behind p) (sym r.0) m in
    (r.0, end_once (byte_len (spelled es)) x.ahead x.behind o p x.ends k)

reading-tokens : (bytes : List ℕ) (ts : List Token) → (h : Lexes bytes ts) → Reading bytes h.0 None
reading-tokens bytes ts h = record {
  ahead = [];
  behind = [];
  decoded = subst (λ (cs : List ℕ). AreDecoded bytes cs []) (sym (append-nil (spelled h.0))) h.1;
  each = h.2;
  ends = (refl, refl);
}

reading-fault : (bytes : List ℕ) (f : TokFault) → (h : IsFault bytes f) → Reading bytes h.0 (Some f)
reading-fault bytes f h = record { ahead = h.1; behind = h.2; decoded = h.3; each = h.4; ends = h.5 }

some_same : (f g : TokFault) → Some f ≡ Some g → f ≡ g
some_same f g e = cc

none_some : {A : Type 0} (f : TokFault) → None ≡ Some f → A
none_some f e = absurd (cc)

pub tokens_once : (bytes : List ℕ) (ts us : List Token) → Lexes bytes ts → Lexes bytes us → ts ≡ us
tokens_once bytes ts us x y =
    let r = reading_once bytes x.0 y.0 None None (reading-tokens bytes ts x) (reading-tokens bytes us y) in
    x.3 ∙ (ap (tokens_of 0) r.0 ∙ sym y.3)

pub first_fault_once : (bytes : List ℕ) (f g : TokFault) → IsFault bytes f → IsFault bytes g → f ≡ g
first_fault_once bytes f g x y =
    let r = reading_once bytes x.0 y.0 (Some f) (Some g) (reading-fault bytes f x) (reading-fault bytes g y) in
    some_same f g r.1

pub tokens_or_fault : {A : Type 0} (bytes : List ℕ) (ts : List Token) (f : TokFault) → Lexes bytes ts → IsFault bytes f → A
tokens_or_fault bytes ts f x y =
    let r = reading_once bytes x.0 y.0 None (Some f) (reading-tokens bytes ts x) (reading-fault bytes f y) in
    none_some f r.1
