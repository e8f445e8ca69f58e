-- Tokens among which no piece begins.
use Rattle.std.proofs.Common.{◌≡◌, ℕ, ◌+◌, ◌-◌, ◌<◌, Bool, true, false, not, ◌&&◌, nat_eq, IsTrue, List, ◌∷◌, refl, ap, ◌∙◌, arith}
use Rattle.std.proofs.lemmas.Bool.Decides.{nat_tests}
use Rattle.vg_tok.specs.declared.token.Kind.{Kind}
use Rattle.vg_tok.specs.declared.token.Kind.TheVariants as kind
use Rattle.vg_tok.specs.declared.sign.Sign.{Sign}
use Rattle.vg_tok.specs.declared.sign.Sign.TheVariants as signs
use Rattle.vg_tok.specs.declared.word.Word.TheVariants as words
use Rattle.vg_ast.specs.Placed.{Placed, sign, word}
use Rattle.vg_ast.specs.Piece.{Depths, depths_behind, begins_piece, closes_part, is_leading, is_leading_kind, is_closing, Cut, cut, cut_before}

-- what a tree spells leads from some depths to others, and no piece begins in it
pub record Leads (d : Depths) (spells : List Placed → List Placed) (e : Depths) : Type 0 where
  pub cut_behind : (ts : List Placed) → cut d false (spells ts) ≡ (spells (cut e false ts).0, (cut e false ts).1)

infixr 20 ◌⨾◌
pub ◌⨾◌ : {d e f : Depths} {a b : List Placed → List Placed} → Leads d a e → Leads e b f → Leads d (λ ts. a (b ts)) f
◌⨾◌ {d} {e} {f} {a} {b} p q = record { cut_behind = λ ts. p.cut_behind (b ts) ∙ ap (λ (c : Cut). (a c.0, c.1)) (q.cut_behind ts) }

pub nothing : (d : Depths) → Leads d (λ ts. ts) d
nothing d = record { cut_behind = λ ts. refl }

and-false : (a : Bool) → (a && false) ≡ false
and-false true = refl
and-false false = refl

-- a token that begins no piece
step_at : (d : Depths) (t : Placed) (ts : List Placed) (begins closes : Bool) (e : Depths) → begins_piece d t.kind ≡ begins → closes_part d t.kind ≡ closes → depths_behind t.kind d ≡ e
    → cut d false (t ∷ ts) ≡ cut_before begins t (cut e closes ts)
unfolding cut
step_at d t ts begins closes e p q r = rw (p, q, r)

pub step : (d : Depths) (t : Placed) (e : Depths) → begins_piece d t.kind ≡ false → closes_part d t.kind ≡ false → depths_behind t.kind d ≡ e → Leads d (λ ts. t ∷ ts) e
step d t e p q r = record { cut_behind = λ ts. step_at d t ts false false e p q r }

-- no brace, no parenthesis, and no word that a piece begins with

abbrev pub is_plain_sign : Sign → Bool
is_plain_sign signs.OpenBrace = false
is_plain_sign signs.CloseBrace = false
is_plain_sign signs.OpenParenthesis = false
is_plain_sign signs.CloseParenthesis = false
is_plain_sign _ = true

abbrev pub is_plain : Kind → Bool
is_plain (kind.Sign s) = is_plain_sign s
is_plain (kind.Word w) = not (is_leading w)
is_plain _ = true

plain_sign_behind : (s : Sign) (d : Depths) → IsTrue (is_plain_sign s) → depths_behind (kind.Sign s) d ≡ d
plain_sign_behind signs.OpenBrace d h = absurd (cc)
plain_sign_behind signs.CloseBrace d h = absurd (cc)
plain_sign_behind signs.OpenParenthesis d h = absurd (cc)
plain_sign_behind signs.CloseParenthesis d h = absurd (cc)
plain_sign_behind _ d h = refl

plain_sign_closing : (s : Sign) → IsTrue (is_plain_sign s) → is_closing (kind.Sign s) ≡ false
plain_sign_closing signs.CloseBrace h = absurd (cc)
plain_sign_closing _ h = refl

plain_behind : (k : Kind) (d : Depths) → IsTrue (is_plain k) → depths_behind k d ≡ d
plain_behind (kind.Sign s) d h = plain_sign_behind s d h
plain_behind (kind.Word w) d h = refl
plain_behind _ d h = refl

plain_closing : (k : Kind) → IsTrue (is_plain k) → is_closing k ≡ false
plain_closing (kind.Sign s) h = plain_sign_closing s h
plain_closing _ h = refl

not_true : (b : Bool) → IsTrue (not b) → b ≡ false
not_true true h = absurd (cc)
not_true false h = refl

plain_leading : (k : Kind) → IsTrue (is_plain k) → is_leading_kind k ≡ false
plain_leading (kind.Word w) h = not_true (is_leading w) h
plain_leading _ h = refl

begins_none : (d : Depths) (k : Kind) → is_closing k ≡ false → is_leading_kind k ≡ false → begins_piece d k ≡ false
begins_none d k p q = rw (p, q) (simp and-false)

closes_none : (d : Depths) (k : Kind) → is_closing k ≡ false → closes_part d k ≡ false
closes_none d k p = rw p (and-false (nat_eq d.braces 1))

pub plain : (t : Placed) (d : Depths) → IsTrue (is_plain t.kind) → Leads d (λ ts. t ∷ ts) d
plain t d h = step d t d (begins_none d t.kind (plain_closing t.kind h) (plain_leading t.kind h)) (closes_none d t.kind (plain_closing t.kind h)) (plain_behind t.kind d h)

-- Parentheses.

abbrev pub inside : Depths → Depths
inside d = record { braces = d.braces; parentheses = d.parentheses + 1 }

one_less : (n : ℕ) → n + 1 - 1 ≡ n
one_less n = omega arith

pub open_at : (at : ℕ) (d : Depths) → Leads d (λ ts. sign signs.OpenParenthesis at ∷ ts) (inside d)
open_at at d = step d (sign signs.OpenParenthesis at) (inside d) (begins_none d (kind.Sign signs.OpenParenthesis) refl refl) (closes_none d (kind.Sign signs.OpenParenthesis) refl) refl

pub close_at : (at : ℕ) (d : Depths) → Leads (inside d) (λ ts. sign signs.CloseParenthesis at ∷ ts) d
close_at at d =
    step (inside d) (sign signs.CloseParenthesis at) d (begins_none (inside d) (kind.Sign signs.CloseParenthesis) refl refl) (closes_none (inside d) (kind.Sign signs.CloseParenthesis) refl)
    (ap (λ n. record { braces = d.braces; parentheses = n }) (one_less d.parentheses))

-- the word `register` stands in parentheses too
not_zero : (n : ℕ) → nat_eq (n + 1) 0 ≡ false
not_zero n = grind (arith, nat_tests)

register_begins : (d : Depths) → begins_piece (inside d) (kind.Word words.Register) ≡ false
register_begins d = rw (not_zero d.parentheses) (simp and-false)

pub register_at : (at : ℕ) (d : Depths) → Leads (inside d) (λ ts. word words.Register at ∷ ts) (inside d)
register_at at d = step (inside d) (word words.Register at) (inside d) (register_begins d) (closes_none (inside d) (kind.Word words.Register) refl) refl

-- Braces in a part.

abbrev pub in_braces : Depths → Depths
in_braces d = record { braces = d.braces + 1; parentheses = d.parentheses }

pub open_brace_at : (at : ℕ) (d : Depths) → Leads d (λ ts. sign signs.OpenBrace at ∷ ts) (in_braces d)
open_brace_at at d = step d (sign signs.OpenBrace at) (in_braces d) (begins_none d (kind.Sign signs.OpenBrace) refl refl) (closes_none d (kind.Sign signs.OpenBrace) refl) refl

not_one : (n : ℕ) → 0 < n → nat_eq (n + 1) 1 ≡ false
not_one n h = grind (arith, nat_tests)

pub close_brace_at : (at : ℕ) (d : Depths) → 0 < d.braces → Leads (in_braces d) (λ ts. sign signs.CloseBrace at ∷ ts) d
close_brace_at at d h =
    step (in_braces d) (sign signs.CloseBrace at) d (rw (not_one d.braces h) refl) (rw (not_one d.braces h) refl)
    (ap (λ n. record { braces = n; parentheses = d.parentheses }) (one_less d.braces))
