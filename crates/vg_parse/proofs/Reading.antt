-- Reading goes on up to a piece that can't stand in its place, or to the end.
use Rattle.std.proofs.Common.{◌≡◌, inl, inr, ℕ, zero, suc, ◌-◌, ◌<◌, true, ◌==◌, List, [], ◌∷◌, length, take, drop, Some, None, refl, sym, ap, subst, ◌∙◌, arith}
use Rattle.std.proofs.lemmas.Bool.Decides.{nat_tests}
use Rattle.std.specs.List.{slice_get}
use Rattle.vg_tok.specs.declared.token.Token.{Token}
use Rattle.vg_ast.specs.declared.desc.Desc.{Desc}
use Rattle.vg_ast.specs.Placed.{Placed, placed_token, placed}
use Rattle.vg_ast.specs.Piece.{pieces, cut}
use Rattle.vg_ast.specs.Leaving.{BeginsAt, end_from, end_of}
use Rattle.vg_parse.specs.declared.cutting.Depths.{Depths}
use Rattle.vg_parse.specs.declared.state.State.{State}
use Rattle.vg_parse.specs.declared.state.State.TheVariants.{Start, Behind}
use Rattle.vg_parse.specs.Cutting.{pieces_from, IsFrontPiece, FitsBehind}
use Rattle.vg_parse.specs.Run.{step, run, first_wrong, IsRead, IsNotBehind, StopsAt}
use Rattle.vg_parse.proofs.Complete.{run_more}
use Rattle.vg_parse.proofs.Sound.{some_same, none_some}

-- The end of the last token.

last_from : (ts : List Token) (n a : ℕ) (x : Token) → suc n ≡ length ts → slice_get ts n ≡ Some x → end_from a ts ≡ x.end
last_from [] n a x h e = none_some e
last_from (t ∷ []) zero a x h e = ap (λ (u : Token). u.end) (some_same e)
last_from (t ∷ []) (suc n) a x h e = absurd (omega arith)
last_from (t ∷ u ∷ ts) zero a x h e = absurd (omega arith)
last_from (t ∷ u ∷ ts) (suc n) a x h e = last_from (u ∷ ts) n t.end x (omega arith) e

pub last_end : (ts : List Token) (x : Token) → Some x ≡ slice_get ts (length ts - 1) → x.end ≡ end_of ts
last_end [] x e = none_some (sym e)
last_end (t ∷ ts) x e = sym (last_from (t ∷ ts) (length (t ∷ ts) - 1) 0 x (omega arith) (sym e))

-- How far it is read.

pub record IsReadTo (t : List Token) (state : State) (depths : Depths) (rest : List Token) : Type 0 where
  pub runs : run Start (pieces (placed t)) ≡ run state (pieces_from depths rest)
  pub wrongs : first_wrong Start (pieces (placed t)) ≡ first_wrong state (pieces_from depths rest)
  pub fits : FitsBehind depths rest (length t)

abbrev pub no_depths : Depths
no_depths = record { braces = 0; parentheses = 0 }

pub read_begin : (t : List Token) → IsReadTo t Start no_depths t
read_begin t = record { runs = refl; wrongs = refl; fits = record { braces = omega arith; parentheses = omega arith } }

wrong_step : (state next : State) (piece : List Placed) (more : List (List Placed)) → step state piece ≡ Some next → first_wrong state (piece ∷ more) ≡ first_wrong next more
unfolding first_wrong
wrong_step state next piece more h = rw h refl

wrong_here : (state : State) (piece : List Placed) (more : List (List Placed)) → step state piece ≡ None → first_wrong state (piece ∷ more) ≡ Some piece
unfolding first_wrong
wrong_here state piece more h = rw h refl

run_end : (depths : Depths) (state : State) → run state (pieces_from depths []) ≡ Some state
unfolding run cut
run_end depths state = refl

pub read_next : (t : List Token) (state next : State) (depths behind : Depths) (rest piece after : List Token) (len : ℕ) → IsReadTo t state depths rest → IsFrontPiece rest depths len behind
    → ((bound : ℕ) → FitsBehind depths rest bound → FitsBehind behind (drop len rest) bound) → piece ≡ take len rest → after ≡ drop len rest → step state (placed piece) ≡ Some next → IsReadTo t next behind after
read_next t state next depths behind rest piece after len r f k e g h =
    let s : step state (placed (take len rest)) ≡ Some next = ap (λ ts. step state (placed ts)) (sym e) ∙ h in
    subst (λ ts. IsReadTo t next behind ts) (sym g) (record {
      runs = r.runs ∙ (ap (run state) f.first ∙ run_more state (placed (take len rest)) (pieces_from behind (drop len rest)) next s);
      wrongs = r.wrongs ∙ (ap (first_wrong state) f.first ∙ wrong_step state next (placed (take len rest)) (pieces_from behind (drop len rest)) s);
      fits = k (length t) r.fits;
    })

pub read_smaller : (rest after : List Token) (depths behind : Depths) (len : ℕ) → IsFrontPiece rest depths len behind → length after ≡ length rest - len → length after < length rest
read_smaller rest after depths behind len f e = omega (arith, f.some, f.within)

begins : (piece : List Token) (at : ℕ) → 0 < length piece → ((t : Token) (more : List Token) → piece ≡ t ∷ more → at ≡ t.start) → BeginsAt (placed piece) at
begins [] at h f = absurd (omega arith)
begins (t ∷ more) at h f = (placed_token t, placed more, refl, f t more refl)

pub read_stops : (t : List Token) (state : State) (depths behind : Depths) (rest piece : List Token) (len at : ℕ) → IsReadTo t state depths rest → IsFrontPiece rest depths len behind
    → piece ≡ take len rest → 0 < length piece → step state (placed piece) ≡ None → ((u : Token) (more : List Token) → piece ≡ u ∷ more → at ≡ u.start) → StopsAt t at
read_stops t state depths behind rest piece len at r f e l h g =
    let s : first_wrong state (pieces_from depths rest) ≡ Some (placed piece)
    = ap (first_wrong state) (f.first ∙ ap (λ ts. placed ts ∷ pieces_from behind (drop len rest)) (sym e)) ∙ wrong_here state (placed piece) (pieces_from behind (drop len rest)) h in
    inl (placed piece, r.wrongs ∙ s, begins piece at l g)

zero_len : (n : ℕ) → true ≡ (n == 0) → n ≡ 0
zero_len n h = grind (arith, nat_tests)

pub empty : (rest : List Token) → true ≡ (length rest == 0) → length rest ≡ 0
empty rest h = zero_len (length rest) h

nothing_left : (t : List Token) (state : State) (depths : Depths) (rest : List Token) → IsReadTo t state depths rest → length rest ≡ 0 → run Start (pieces (placed t)) ≡ Some state
nothing_left t state depths [] r e = r.runs ∙ run_end depths state
nothing_left t state depths (x ∷ rest) r e = absurd (omega arith)

pub read_all : (t : List Token) (state : State) (depths : Depths) (rest : List Token) → IsReadTo t state depths rest → length rest ≡ 0 → (desc : Desc) → state ≡ Behind desc → IsRead t desc
read_all t state depths rest r e desc h = nothing_left t state depths rest r e ∙ ap Some h

pub read_open : (t : List Token) (state : State) (depths : Depths) (rest : List Token) (at : ℕ) → IsReadTo t state depths rest → length rest ≡ 0 → IsNotBehind state → at ≡ end_of t → StopsAt t at
read_open t state depths rest at r e n h = inr (state, nothing_left t state depths rest r e, n, h)
