-- The tokens of a text stand in order.
use Rattle.std.proofs.Common.{◌≡◌, inl, inr, ℕ, ◌+◌, ◌<◌, ◌≤◌, List, [], ◌∷◌, ◌++◌, length, Option, Some, None, sym, ap, subst, ◌∙◌, arith}
use Rattle.std.proofs.lemmas.List.{append-nil}
use Rattle.std.proofs.lemmas.Str.{len_utf8_bounds}
use Rattle.std.specs.Str.{encode_utf8_all}
use Rattle.vg_tok.specs.declared.token.Token.{Token}
use Rattle.vg_tok.specs.declared.token.Kind.{Kind}
use Rattle.vg_tok.specs.Lexing.{byte_len, IsElement, Element, AreElements, spelled, tokens_of, placed, Lexes}
use Rattle.vg_tok.specs.Order.{AreInOrder}
use Rattle.vg_tok.proofs.Steps.{byte_len-cons}
use Rattle.vg_tok.proofs.Spelled.{spells-first}
use Rattle.vg_tok.proofs.Found.{byte_len-append}

some_bytes : (c : ℕ) (text cs : List ℕ) → text ≡ c ∷ cs → 0 < byte_len text
some_bytes c text cs e = omega (arith, ap byte_len e ∙ byte_len-cons c cs, (len_utf8_bounds c).0)

element_bytes : (text rest : List ℕ) (k : Option Kind) → IsElement (record { text = text; kind = k }) rest → 0 < byte_len text
element_bytes text rest None (inl w) = some_bytes w.0 text [] w.1
element_bytes text rest None (inr (inl x)) = some_bytes 47 text (47 ∷ x.0) x.1
element_bytes text rest None (inr (inr y)) = some_bytes 47 text (42 ∷ (y.0 ++ (42 ∷ 47 ∷ []))) y.1
element_bytes text rest (Some k) t = let f = spells-first k text t.0.spells in some_bytes f.first text f.others f.whole

earlier : (i j limit : ℕ) (ts : List Token) → i ≤ j → AreInOrder j ts limit → AreInOrder i ts limit
earlier i j limit [] h o = omega arith
earlier i j limit (t ∷ ts) h o = (omega (arith, o.0), o.1, o.2)

placed_order : (k : Option Kind) (at next limit : ℕ) (ts : List Token) → at < next → AreInOrder next ts limit → AreInOrder at (placed k at next ++ ts) limit
placed_order None at next limit ts h o = earlier at next limit ts (omega arith) o
placed_order (Some k) at next limit ts h o = (omega arith, h, o)

row_order : (at : ℕ) (es : List Element) (rest : List ℕ) → AreElements es rest → AreInOrder at (tokens_of at es) (at + byte_len (spelled es))
row_order at [] rest a = omega arith
row_order at (e ∷ es) rest a =
    let next = at + byte_len e.text in
    let b = element_bytes e.text (spelled es ++ rest) e.kind a.0 in
    let h : at < next = omega (arith, b) in
    let n : next + byte_len (spelled es) ≡ at + byte_len (e.text ++ spelled es) = omega (arith, byte_len-append e.text (spelled es)) in
    placed_order e.kind at next _ (tokens_of next es) h (subst (AreInOrder next (tokens_of next es)) n (row_order next es rest a.1))

pub Lexes-in_order : (bytes : List ℕ) (ts : List Token) → Lexes bytes ts → AreInOrder 0 ts (length bytes)
Lexes-in_order bytes ts (es, d, a, t) =
    let n : 0 + byte_len (spelled es) ≡ length bytes = omega (arith, ap length (d.whole ∙ append-nil (encode_utf8_all (spelled es)))) in
    subst (λ (us : List Token). AreInOrder 0 us (length bytes)) (sym t) (subst (AreInOrder 0 (tokens_of 0 es)) n (row_order 0 es [] a))
