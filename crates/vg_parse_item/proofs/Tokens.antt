-- What a token that was taken, or wasn't there, tells of how the tokens begin.
use Rattle.std.proofs.Common.{◌≡◌, ℕ, Bool, true, false, List, [], ◌∷◌, Option, Some, None, if◌then◌else◌, refl, sym}
use Rattle.std.proofs.lemmas.Option.{none-some}
use Rattle.vg_tok.specs.declared.sign.Sign.{Sign}
use Rattle.vg_ast.specs.Placed.{Placed}
use Rattle.vg_parse_expr.specs.Lexeme.{is_sign_kind, begins_with, sign_at}

taken : {A : Type 0} (b : Bool) (x y : A) → if◌then◌else◌ {A = Option A} b (Some x) None ≡ Some y → b ≡ true
taken true x y h = refl
taken false x y h = absurd (none-some y h)

left : {A : Type 0} (b : Bool) (x : A) → if◌then◌else◌ {A = Option A} b (Some x) None ≡ None → b ≡ false
left true x h = absurd (none-some x (sym h))
left false x h = refl

pub sign_found : (s : Sign) (ts : List Placed) (x : ℕ × List Placed) → sign_at s ts ≡ Some x → begins_with s ts ≡ true
unfolding sign_at
sign_found s [] x h = absurd (none-some x h)
sign_found s (t ∷ ts) x h = taken (is_sign_kind s t.kind) (t.at, ts) x h

pub sign_missing : (s : Sign) (ts : List Placed) → sign_at s ts ≡ None → begins_with s ts ≡ false
unfolding sign_at
sign_missing s [] h = refl
sign_missing s (t ∷ ts) h = left (is_sign_kind s t.kind) (t.at, ts) h
