-- One step of the reader of a statement, as the code takes it.
use Rattle.std.proofs.Common.{◌≡◌, ℕ, zero, suc, ◌-◌, ◌<◌, max, List, [], ◌∷◌, ◌++◌, length, Some, None, refl, ap, sym, arith}
use Rattle.std.proofs.lemmas.List.{length-map}
use Rattle.vg_tok.specs.declared.token.Token.{Token}
use Rattle.vg_tok.specs.declared.sign.Sign.TheVariants as signs
use Rattle.vg_ast.specs.declared.statement.Statement.{Statement}
use Rattle.vg_ast.specs.Placed.{Placed, placed, placed_token}
use Rattle.vg_parse_expr.specs.Lexeme.{sign_at}
use Rattle.vg_parse_item.specs.declared.sized.SizedStatement.{SizedStatement}
use Rattle.vg_parse_item.specs.ReadingRow.{Reader}
use Rattle.vg_parse_item.specs.ReadingStatement.{statements_at, statement_by, statement_within}
use Rattle.vg_parse_item.proofs.Tokens.{sign_found, sign_missing}

-- with fuel, parts are read with one less
pub with_fuel : (fuel : ℕ) (ts : List Placed) → 0 < fuel → statement_within fuel ts ≡ statement_by (statement_within (fuel - 1)) ts
unfolding statement_within
with_fuel zero ts h = absurd (omega arith)
with_fuel (suc n) ts h = let e : suc n - 1 ≡ n = omega arith in ap (λ m. statement_by (statement_within m) ts) (sym e)

pub without_fuel : (fuel : ℕ) (ts : List Placed) → fuel ≡ 0 → statement_within fuel ts ≡ None
unfolding statement_within
without_fuel fuel ts h = rw h refl

pub statements_end : (read : Reader SizedStatement) (fuel : ℕ) (front : List Statement) (deepest : ℕ) (ts : List Placed) → fuel ≡ 0 → statements_at fuel read front deepest ts ≡ None
unfolding statements_at
statements_end read fuel front deepest ts h = rw h refl

pub statements_close : (read : Reader SizedStatement) (fuel : ℕ) (front : List Statement) (deepest : ℕ) (ts : List Placed) (closing : ℕ × List Placed)
    → 0 < fuel → sign_at signs.CloseBrace ts ≡ Some closing → statements_at fuel read front deepest ts ≡ Some ((front, deepest), closing.1)
unfolding statements_at
statements_close read zero front deepest ts closing p h = absurd (omega arith)
statements_close read (suc n) front deepest ts closing p h = let e = sign_found signs.CloseBrace ts closing h in rw e (rw h refl)

pub statements_stop : (read : Reader SizedStatement) (fuel : ℕ) (front : List Statement) (deepest : ℕ) (ts : List Placed)
    → sign_at signs.CloseBrace ts ≡ None → read ts ≡ None → statements_at fuel read front deepest ts ≡ None
unfolding statements_at
statements_stop read zero front deepest ts h k = refl
statements_stop read (suc n) front deepest ts h k = let e = sign_missing signs.CloseBrace ts h in rw e (rw k refl)

pub statements_more : (read : Reader SizedStatement) (fuel : ℕ) (front : List Statement) (deepest : ℕ) (ts : List Placed) (found : SizedStatement × List Placed)
    → 0 < fuel → sign_at signs.CloseBrace ts ≡ None → read ts ≡ Some found
    → statements_at fuel read front deepest ts ≡ statements_at (fuel - 1) read (front ++ found.0.tree ∷ []) (max deepest found.0.depth) found.1
unfolding statements_at
statements_more read zero front deepest ts found p h k = absurd (omega arith)
statements_more read (suc n) front deepest ts found p h k =
    let e = sign_missing signs.CloseBrace ts h in
    let m : suc n - 1 ≡ n = omega arith in
    rw e (rw k (ap (λ f. statements_at f read (front ++ found.0.tree ∷ []) (max deepest found.0.depth) found.1) (sym m)))

-- the tokens are as many as the places
pub statements_whole : (read : Reader SizedStatement) (tokens : List Token) → statements_at (length tokens) read [] 0 (placed tokens) ≡ statements_at (length (placed tokens)) read [] 0 (placed tokens)
statements_whole read tokens = ap (λ n. statements_at n read [] 0 (placed tokens)) (sym (length-map tokens placed_token))
