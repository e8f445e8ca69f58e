-- The element or the fault that a lexeme tells.
use Rattle.std.proofs.Common.{◌≡◌, ◌≢◌, ℕ, ◌+◌, ◌-◌, ◌≤◌, true, List, [], ◌∷◌, ◌++◌, length, take, drop, Option, Some, sym, ap, subst, ◌∙◌, arith, length-append}
use Rattle.std.proofs.lemmas.List.{take_at}
use Rattle.std.proofs.lemmas.Str.{encodes-append}
use Rattle.std.specs.Str.{encode_utf8_all}
use Rattle.vg_tok.specs.declared.token.Kind.{Kind}
use Rattle.vg_tok.specs.declared.token.Kind.TheVariants as kinds
use Rattle.vg_tok.specs.declared.lexeme.Lexeme.TheVariants as lexemes
use Rattle.vg_tok.specs.Lexing.{byte_len, has_close, IsToken}
use Rattle.vg_tok.specs.Reading.{name_kind, Begins, Means}
use Rattle.vg_tok.proofs.Lists.{false≢true}

pub byte_len-append : (a b : List ℕ) → byte_len (a ++ b) ≡ byte_len a + byte_len b
byte_len-append a b = ap length (encodes-append a b) ∙ length-append (encode_utf8_all a) (encode_utf8_all b)

pub byte_len-take : (n : ℕ) (cs a b : List ℕ) → cs ≡ a ++ b → length a ≡ n → (byte_len (take n cs) ≡ byte_len a) × (byte_len (take n cs) ≤ byte_len cs)
byte_len-take n cs a b e l =
    let t : take n cs ≡ a = ap (take n) e ∙ take_at a b n l in
    let h : byte_len (take n cs) ≡ byte_len a = ap byte_len t in
    (h, omega (arith, h, ap byte_len e ∙ byte_len-append a b))

pub taken : (n : ℕ) (cs a b : List ℕ) → cs ≡ a ++ b → length a ≡ n → n ≡ length (take n cs)
taken n cs a b e l = sym (ap (λ z. length (take n z)) e ∙ (ap length (take_at a b n l) ∙ l))

pub name_begins : (cs : List ℕ) (n : ℕ) (kind : Kind) → Means (lexemes.Name n) cs → kind ≡ name_kind (take n cs) → Begins cs (Some kind) n
name_begins cs n kind (text, rest, w, l, p, t) e =
    let h : take n cs ≡ text = ap (take n) w ∙ take_at text rest n l in
    let k : kind ≡ name_kind text = e ∙ ap name_kind h in
    record { text = text; rest = rest; whole = w; len_is = l; some = p; element = subst (λ (j : Kind). IsToken j text rest) (sym k) t }

pub string_fits : (cs : List ℕ) (n : ℕ) → Means (lexemes.Str n) cs → (2 ≤ n) × (n ≤ length cs)
string_fits cs n (body, l, b, (rest, w)) = (omega (arith, l), omega (arith, ap length b.whole ∙ length-append b.text b.rest, b.len_is))

pub string_begins : (cs : List ℕ) (n : ℕ) (items : List ℕ) → Means (lexemes.Str n) cs → items ≡ take (n - 2) (drop 1 cs) → Begins cs (Some (kinds.Str items)) n
string_begins cs n items (body, l, b, (rest, w)) e =
    let d : drop 1 cs ≡ body ++ (34 ∷ rest) = ap (drop 1) w in
    let h : take (n - 2) (drop 1 cs) ≡ body = ap (take (n - 2)) d ∙ take_at body (34 ∷ rest) (n - 2) (omega (arith, l)) in
    subst (λ (x : List ℕ). Begins cs (Some (kinds.Str x)) n) (sym (e ∙ h)) b

pub closed_some : (behind : List ℕ) → has_close behind ≡ true → behind ≢ []
closed_some behind h e = false≢true (ap has_close (sym e) ∙ h)

pub begins_fits : (cs : List ℕ) (k : Option Kind) (n : ℕ) → Begins cs k n → n ≤ length cs
begins_fits cs k n b = omega (arith, ap length b.whole ∙ length-append b.text b.rest, b.len_is)
