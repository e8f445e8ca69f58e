-- The piece at the front of tokens, a token at a time.
use Rattle.std.proofs.Common.{◌≡◌, ℕ, suc, ◌+◌, ◌<◌, ◌≤◌, Bool, true, false, ◌||◌, List, [], ◌∷◌, ◌++◌, length, take, drop, get_or, slice_index_or, refl, sym, ap, subst, ◌∙◌, arith, append_assoc, append-nil, take-suc, drop-cons, drop_of_length-le}
use Rattle.std.proofs.lemmas.List.{map-append}
use Rattle.vg_tok.specs.declared.token.Token.{Token}
use Rattle.vg_tok.specs.declared.token.Kind.{Kind}
use Rattle.vg_tok.specs.declared.token.Kind.TheVariants as kind
use Rattle.vg_tok.specs.declared.sign.Sign.{Sign}
use Rattle.vg_tok.specs.declared.sign.Sign.TheVariants as signs
use Rattle.vg_ast.specs.Placed.{placed_token, placed}
use Rattle.vg_ast.specs.Piece.{depths_behind, begins_piece, closes_part, Cut, cut, cut_before}
use Rattle.vg_ast.specs.Piece as piece
use Rattle.vg_parse.specs.declared.cutting.Depths.{Depths}
use Rattle.vg_parse.specs.Cutting.{depths_of, pieces_from, IsFrontPiece, FitsBehind}
use Rattle.vg_parse.proofs.Pieces.{fresh_front}

-- What is open rises by one at most.

record Rises (old new : piece.Depths) : Type 0 where
  braces : new.braces ≤ old.braces + 1
  parentheses : new.parentheses ≤ old.parentheses + 1

sign_rises : (s : Sign) (d : piece.Depths) → Rises d (depths_behind (kind.Sign s) d)
sign_rises signs.OpenBrace d = record { braces = omega arith; parentheses = omega arith }
sign_rises signs.CloseBrace d = record { braces = omega arith; parentheses = omega arith }
sign_rises signs.OpenParenthesis d = record { braces = omega arith; parentheses = omega arith }
sign_rises signs.CloseParenthesis d = record { braces = omega arith; parentheses = omega arith }
sign_rises _ d = record { braces = omega arith; parentheses = omega arith }

rises : (k : Kind) (d : piece.Depths) → Rises d (depths_behind k d)
rises (kind.Sign s) d = sign_rises s d
rises _ d = record { braces = omega arith; parentheses = omega arith }

fits_next : (t : Token) (more : List Token) (old new : Depths) (bound : ℕ) → depths_of new ≡ depths_behind t.kind (depths_of old) → FitsBehind old (t ∷ more) bound → FitsBehind new more bound
fits_next t more old new bound e f =
    let r = rises t.kind (depths_of old) in
    let b : new.braces ≡ (depths_behind t.kind (depths_of old)).braces = ap (λ (d : piece.Depths). d.braces) e in
    let p : new.parentheses ≡ (depths_behind t.kind (depths_of old)).parentheses = ap (λ (d : piece.Depths). d.parentheses) e in
    record { braces = omega (arith, r.braces, f.braces); parentheses = omega (arith, r.parentheses, f.parentheses) }

pub fits_one : (t : Token) (more : List Token) (d : Depths) (bound : ℕ) → FitsBehind d (t ∷ more) bound → (d.braces + 1 ≤ bound) × (d.parentheses + 1 ≤ bound)
fits_one t more d bound f = (omega (arith, f.braces), omega (arith, f.parentheses))

-- Pieces, a token at a time.

first_piece : (before depths : Depths) (fresh : Bool) (t : Token) (more : List Token) → depths_of depths ≡ depths_behind t.kind (depths_of before) → fresh ≡ closes_part (depths_of before) t.kind
    → pieces_from before (t ∷ more) ≡ (placed_token t ∷ (cut (depths_of depths) fresh (placed more)).0) ∷ (cut (depths_of depths) fresh (placed more)).1
unfolding cut
first_piece before depths fresh t more e f = rw (e, f) refl

next_token : (old new : Depths) (fresh closes : Bool) (t : Token) (more : List Token) → (fresh || begins_piece (depths_of old) t.kind) ≡ false → depths_of new ≡ depths_behind t.kind (depths_of old) → closes ≡ closes_part (depths_of old) t.kind
    → cut (depths_of old) fresh (placed (t ∷ more)) ≡ (placed_token t ∷ (cut (depths_of new) closes (placed more)).0, (cut (depths_of new) closes (placed more)).1)
unfolding cut
next_token old new fresh closes t more h e f = rw (h, e, f) refl

next_piece : (old : Depths) (fresh : Bool) (t : Token) (more : List Token) → (fresh || begins_piece (depths_of old) t.kind) ≡ true
    → cut (depths_of old) fresh (placed (t ∷ more)) ≡ cut (depths_of old) true (placed (t ∷ more))
unfolding cut
next_piece old fresh t more h = rw h refl

cut_nothing : (d : Depths) (fresh : Bool) → cut (depths_of d) fresh [] ≡ ([], [])
unfolding cut
cut_nothing d fresh = refl

-- the first piece goes up to this token at least
pub record IsCutTo (tokens : List Token) (before : Depths) (len : ℕ) (depths : Depths) (fresh : Bool) : Type 0 where
  pub some : 0 < len
  pub within : len ≤ length tokens
  pub first : pieces_from before tokens
      ≡ (placed (take len tokens) ++ (cut (depths_of depths) fresh (placed (drop len tokens))).0) ∷ (cut (depths_of depths) fresh (placed (drop len tokens))).1
  pub fits : (bound : ℕ) → FitsBehind before tokens bound → FitsBehind depths (drop len tokens) bound

pub cut_begin : (tokens : List Token) (before depths : Depths) (fresh : Bool) (x : Token) → 0 < length tokens → depths_of depths ≡ depths_behind (slice_index_or tokens 0 x).kind (depths_of before)
    → fresh ≡ closes_part (depths_of before) (slice_index_or tokens 0 x).kind → IsCutTo tokens before 1 depths fresh
cut_begin [] before depths fresh x h e f = absurd (omega arith)
cut_begin (t ∷ more) before depths fresh x h e f = record {
  some = omega arith;
  within = omega arith;
  first = first_piece before depths fresh t more e f;
  fits = λ bound k. fits_next t more before depths bound e k;
}

pub fits_at : (tokens : List Token) (before : Depths) (len : ℕ) (depths : Depths) (fresh : Bool) (bound : ℕ) (x : Token) → len < length tokens → IsCutTo tokens before len depths fresh → FitsBehind before tokens bound
    → (depths.braces + 1 ≤ bound) × (depths.parentheses + 1 ≤ bound)
fits_at tokens before len depths fresh bound x h c f =
    fits_one (get_or tokens len x) (drop (suc len) tokens) depths bound (subst (λ ts. FitsBehind depths ts bound) (drop-cons tokens len x h) (c.fits bound f))

pub cut_next : (tokens : List Token) (before : Depths) (len : ℕ) (old new : Depths) (fresh closes : Bool) (x : Token) → len < length tokens → IsCutTo tokens before len old fresh
    → (fresh || begins_piece (depths_of old) (slice_index_or tokens len x).kind) ≡ false → depths_of new ≡ depths_behind (slice_index_or tokens len x).kind (depths_of old)
    → closes ≡ closes_part (depths_of old) (slice_index_or tokens len x).kind → IsCutTo tokens before (suc len) new closes
cut_next tokens before len old new fresh closes x h c n e f =
    let t = get_or tokens len x in
    let more = drop (suc len) tokens in
    let behind = cut (depths_of new) closes (placed more) in record {
      some = omega arith;
      within = omega arith;
      first = c.first
          ∙ (ap (λ ts. (placed (take len tokens) ++ (cut (depths_of old) fresh (placed ts)).0) ∷ (cut (depths_of old) fresh (placed ts)).1) (drop-cons tokens len x h)
          ∙ (ap (λ (b : Cut). (placed (take len tokens) ++ b.0) ∷ b.1) (next_token old new fresh closes t more n e f)
          ∙ ap (λ front. front ∷ behind.1) (sym (append_assoc (placed (take len tokens)) (placed_token t ∷ []) behind.0)
          ∙ ap (λ front. front ++ behind.0) (sym (ap placed (take-suc tokens len x h) ∙ map-append placed_token (take len tokens) (t ∷ []))))));
      fits = λ bound k. fits_next t more old new bound e (subst (λ ts. FitsBehind old ts bound) (drop-cons tokens len x h) (c.fits bound k));
    }

pub cut_ends : (tokens : List Token) (before : Depths) (len : ℕ) (depths : Depths) (fresh : Bool) (x : Token) → len < length tokens → IsCutTo tokens before len depths fresh
    → (fresh || begins_piece (depths_of depths) (slice_index_or tokens len x).kind) ≡ true → IsFrontPiece tokens before len depths
cut_ends tokens before len depths fresh x h c n =
    let more = drop (suc len) tokens in
    let same : cut (depths_of depths) fresh (placed (drop len tokens)) ≡ cut (depths_of depths) true (placed (drop len tokens))
    = subst (λ ts. cut (depths_of depths) fresh (placed ts) ≡ cut (depths_of depths) true (placed ts)) (sym (drop-cons tokens len x h)) (next_piece depths fresh (get_or tokens len x) more n) in record {
      some = c.some;
      within = c.within;
      first = c.first
          ∙ (ap (λ (b : Cut). (placed (take len tokens) ++ b.0) ∷ b.1) same
          ∙ ap (λ front. front ∷ pieces_from depths (drop len tokens)) (ap (λ front. placed (take len tokens) ++ front) (fresh_front (depths_of depths) (placed (drop len tokens))) ∙ append-nil (placed (take len tokens))));
    }

cut_whole : (tokens : List Token) (before : Depths) (len : ℕ) (depths : Depths) (fresh : Bool) → len ≡ length tokens → IsCutTo tokens before len depths fresh → IsFrontPiece tokens before len depths
cut_whole tokens before len depths fresh h c =
    let all : length tokens ≤ len = omega arith in
    let none : drop len tokens ≡ [] = drop_of_length-le tokens all in
    let same : cut (depths_of depths) fresh (placed (drop len tokens)) ≡ cut (depths_of depths) true (placed (drop len tokens))
    = subst (λ ts. cut (depths_of depths) fresh (placed ts) ≡ cut (depths_of depths) true (placed ts)) (sym none) (cut_nothing depths fresh ∙ sym (cut_nothing depths true)) in record {
      some = c.some;
      within = c.within;
      first = c.first
          ∙ (ap (λ (b : Cut). (placed (take len tokens) ++ b.0) ∷ b.1) same
          ∙ ap (λ front. front ∷ pieces_from depths (drop len tokens)) (ap (λ front. placed (take len tokens) ++ front) (fresh_front (depths_of depths) (placed (drop len tokens))) ∙ append-nil (placed (take len tokens))));
    }

pub cut_all : (tokens : List Token) (before : Depths) (len : ℕ) (depths : Depths) (fresh : Bool) → length tokens ≤ len → IsCutTo tokens before len depths fresh → IsFrontPiece tokens before (length tokens) depths
cut_all tokens before len depths fresh h c =
    let e : len ≡ length tokens = omega (arith, c.within) in
    subst (λ n. IsFrontPiece tokens before n depths) e (cut_whole tokens before len depths fresh e c)

pub fits_all : (tokens : List Token) (before : Depths) (len : ℕ) (depths : Depths) (fresh : Bool) → length tokens ≤ len → IsCutTo tokens before len depths fresh
    → (bound : ℕ) → FitsBehind before tokens bound → FitsBehind depths (drop (length tokens) tokens) bound
fits_all tokens before len depths fresh h c bound f =
    let e : len ≡ length tokens = omega (arith, c.within) in
    subst (λ n. FitsBehind depths (drop n tokens) bound) e (c.fits bound f)

-- Whether a piece begins at a token, as the code asks it.

pub left_or : {a : Bool} (b : Bool) → a ≡ true → (a || b) ≡ true
left_or b h = rw h refl

pub right_or : (a : Bool) {b c : Bool} → c ≡ b → c ≡ true → (a || b) ≡ true
right_or true e h = refl
right_or false e h = sym e ∙ h

pub neither_or : {a b c : Bool} → a ≡ false → c ≡ b → c ≡ false → (a || b) ≡ false
neither_or h e k = rw (h, ← e, k) refl
