-- One step of the reader of a row, as the code takes it.
use Rattle.std.proofs.Common.{◌≡◌, ℕ, zero, suc, ◌-◌, ◌<◌, List, [], ◌∷◌, ◌++◌, length, Some, None, refl, ap, sym, arith}
use Rattle.std.proofs.lemmas.List.{length-map}
use Rattle.vg_tok.specs.declared.token.Token.{Token}
use Rattle.vg_tok.specs.declared.sign.Sign.TheVariants as signs
use Rattle.vg_ast.specs.Placed.{Placed, placed, placed_token}
use Rattle.vg_parse_expr.specs.Lexeme.{sign_at}
use Rattle.vg_parse_item.specs.ReadingRow.{Reader, row_from, row_at}
use Rattle.vg_parse_item.proofs.Tokens.{sign_found, sign_missing}

pub row_whole : {X : Type 0} (read : Reader X) (tokens : List Token) → row_from read (length tokens) [] (placed tokens) ≡ row_at read (placed tokens)
unfolding row_at
row_whole read tokens = ap (λ n. row_from read n [] (placed tokens)) (sym (length-map tokens placed_token))

pub row_ends : {X : Type 0} (read : Reader X) (fuel : ℕ) (front : List X) (ts : List Placed) → fuel ≡ 0 → row_from read fuel front ts ≡ None
unfolding row_from
row_ends read fuel front ts h = rw h refl

pub row_stops : {X : Type 0} (read : Reader X) (fuel : ℕ) (front : List X) (ts : List Placed) → read ts ≡ None → row_from read fuel front ts ≡ None
unfolding row_from
row_stops read zero front ts h = refl
row_stops read (suc n) front ts h = rw h refl

pub row_last : {X : Type 0} (read : Reader X) (fuel : ℕ) (front : List X) (ts : List Placed) (found : X × List Placed)
    → 0 < fuel → read ts ≡ Some found → sign_at signs.Comma found.1 ≡ None → row_from read fuel front ts ≡ Some (front ++ found.0 ∷ [], found.1)
unfolding row_from
row_last read zero front ts found p h k = absurd (omega arith)
row_last read (suc n) front ts found p h k = let e = sign_missing signs.Comma found.1 k in rw h (rw e refl)

pub row_more : {X : Type 0} (read : Reader X) (fuel : ℕ) (front : List X) (ts : List Placed) (found : X × List Placed) (comma : ℕ × List Placed)
    → 0 < fuel → read ts ≡ Some found → sign_at signs.Comma found.1 ≡ Some comma → row_from read fuel front ts ≡ row_from read (fuel - 1) (front ++ found.0 ∷ []) comma.1
unfolding row_from
row_more read zero front ts found comma p h k = absurd (omega arith)
row_more read (suc n) front ts found comma p h k =
    let e = sign_found signs.Comma found.1 comma k in
    let m : suc n - 1 ≡ n = omega arith in
    rw h (rw e (rw k (ap (λ f. row_from read f (front ++ found.0 ∷ []) comma.1) (sym m))))
