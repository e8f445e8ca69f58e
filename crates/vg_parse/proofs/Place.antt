-- Where reading stops is where the text leaves the grammar.
use Rattle.std.proofs.Common.{◌≡◌, ◌⊎◌, inl, inr, ℕ, Bool, true, false, ◌||◌, IsTrue, List, [], ◌∷◌, ◌++◌, Option, Some, None, refl, sym, ap, subst, ◌∙◌, append-nil}
use Rattle.std.specs.Option.{option_map_or}
use Rattle.vg_tok.specs.declared.token.Token.{Token}
use Rattle.vg_ast.specs.declared.desc.Desc.{Desc}
use Rattle.vg_ast.specs.Placed.{Placed, placed}
use Rattle.vg_ast.specs.ConcreteItem.{IsaHeading, Description}
use Rattle.vg_ast.specs.SpellingItem.{spelled_description}
use Rattle.vg_ast.specs.Grammar.{is_description}
use Rattle.vg_ast.specs.TreeItem.{description_of}
use Rattle.vg_ast.specs.Description.{IsDescription, Reads}
use Rattle.vg_ast.specs.Piece.{Depths, no_depths, depths_behind, begins_piece, closes_part, Cut, cut, cut_before, pieces}
use Rattle.vg_ast.specs.Leaving.{BeginDescription, BeginsAt, IsFirstWrong, end_of, LeavesAt}
use Rattle.vg_parse_expr.specs.Lexeme.{◌>>=◌}
use Rattle.vg_parse.specs.declared.state.State.{State}
use Rattle.vg_parse.specs.declared.state.State.TheVariants.{Start, InIsa, Behind, InAbi, InMicro}
use Rattle.vg_parse.specs.Run.{step, run, first_wrong, IsRead, StopsAt}
use Rattle.vg_parse.proofs.Pieces.{closed, description_pieces, pieces_description, spelled_by_pieces}
use Rattle.vg_parse.proofs.Open.{AreExact}
use Rattle.vg_parse.proofs.Sound.{IsAt, isa_done, abi_done, micro_done, run_sound, some_same, none_some}
use Rattle.vg_parse.proofs.Complete.{description_read}

-- Descriptions are what is read.

pub reads_from_read : AreExact → (tokens : List Token) (desc : Desc) → IsRead tokens desc → Reads tokens desc
reads_from_read exact tokens desc h =
    let s = run_sound exact Start [] (pieces (placed tokens)) (Behind desc) refl h in
    (s.0, spelled_by_pieces (placed tokens) s.0 s.2, s.1, s.3)

pub description_runs : AreExact → (ts : List Placed) (d : Description) → ts ≡ spelled_description d → IsTrue (is_description d) → run Start (pieces ts) ≡ Some (Behind (description_of d))
description_runs exact ts d e right = ap (run Start) (ap pieces e ∙ pieces_description d) ∙ description_read exact d right

pub read_from_reads : AreExact → (tokens : List Token) (desc : Desc) → Reads tokens desc → IsRead tokens desc
read_from_reads exact tokens desc (d, e, right, f) = description_runs exact (placed tokens) d e right ∙ ap (λ x. Some (Behind x)) (sym f)

-- Pieces begin a description exactly where each can stand in its place.

-- a description with no items
an_isa : IsaHeading
an_isa = record { at = 0; at_set = 0; at_architecture = 0; name = record { text = []; at = 0 }; equal = 0; opening = 0 }

a_description : Description
a_description = record { isa = record { heading = an_isa; inner = []; closing = 0 }; abi = None; micro = None }

a_right : IsTrue (is_description a_description)
unfolding a_description
a_right = refl

Begun : List (List Placed) → Type 0
Begun front = (d : Description) × IsTrue (is_description d) × (behind : List (List Placed)) × (description_pieces d ≡ front ++ behind)

begun : (state : State) (front : List (List Placed)) → IsAt state front → Begun front
unfolding Begun
begun Start front e = (a_description, a_right, description_pieces a_description, rw e refl)
begun (InIsa heading items) front o = let s = isa_done heading items front 0 o in (s.0, s.1, closed 0, sym s.2)
begun (Behind desc) front (d, right, e, f) = (d, right, [], sym e ∙ sym (append-nil front))
begun (InAbi desc heading roles) front (isa, right, is, o) = let s = abi_done isa heading roles front 0 right o in (s.0, s.1, closed 0, sym s.2)
begun (InMicro desc heading items) front (isa, abi, right, is, o) = let s = micro_done isa abi heading items front 0 right o in (s.0, s.1, closed 0, sym s.2)

begins_from_begun : (front : List (List Placed)) → Begun front → BeginDescription front
unfolding Begun
begins_from_begun front (d, right, behind, e) = (spelled_description d, behind, (d, refl, right), pieces_description d ∙ e)

begins_from_run : AreExact → (front : List (List Placed)) (state : State) → run Start front ≡ Some state → BeginDescription front
begins_from_run exact front state h = begins_from_begun front (begun state front (run_sound exact Start [] front state refl h))

abbrev Runs : State → List (List Placed) → Type 0
Runs state front = (last : State) × (run state front ≡ Some last)

next_front : (found : Option State) (front behind : List (List Placed)) (last : State) → ((next : State) → run next (front ++ behind) ≡ Some last → Runs next front)
    → (found >>= (λ next. run next (front ++ behind))) ≡ Some last → (end : State) × ((found >>= (λ next. run next front)) ≡ Some end)
next_front (Some next) front behind last go h = go next h
next_front None front behind last go h = none_some h

run_front : (state : State) (front behind : List (List Placed)) (last : State) → run state (front ++ behind) ≡ Some last → Runs state front
unfolding run
run_front state [] behind last h = (state, refl)
run_front state (piece ∷ front) behind last h = next_front (step state piece) front behind last (λ next e. run_front next front behind last e) h

run_from_begins : AreExact → (front : List (List Placed)) → BeginDescription front → Runs Start front
run_from_begins exact front (ts, behind, (d, e, right), f) =
    run_front Start front behind (Behind (description_of d)) (ap (run Start) (sym f) ∙ description_runs exact ts d e right)

-- The first piece that can't stand in its place.

-- a piece that can't stand behind those before it
record Parted (state : State) (all : List (List Placed)) (piece : List Placed) : Type 0 where
  front : List (List Placed)
  behind : List (List Placed)
  before : State
  whole : all ≡ front ++ piece ∷ behind
  runs : run state front ≡ Some before
  stuck : step before piece ≡ None

parted_more : (state next : State) (first : List Placed) (more : List (List Placed)) (piece : List Placed) → step state first ≡ Some next → Parted next more piece → Parted state (first ∷ more) piece
unfolding run
parted_more state next first more piece h p = record {
  front = first ∷ p.front;
  behind = p.behind;
  before = p.before;
  whole = ap (λ ps. first ∷ ps) p.whole;
  runs = rw h p.runs;
  stuck = p.stuck;
}

parted_next : (state : State) (first : List Placed) (more : List (List Placed)) (piece : List Placed) (found : Option State) → step state first ≡ found
    → ((next : State) → first_wrong next more ≡ Some piece → Parted next more piece) → option_map_or (λ next. first_wrong next more) found (Some first) ≡ Some piece → Parted state (first ∷ more) piece
unfolding run
parted_next state first more piece (Some next) e go h = parted_more state next first more piece e (go next h)
parted_next state first more piece None e go h =
    record { front = []; behind = more; before = state; whole = ap (λ p. p ∷ more) (some_same h); runs = refl; stuck = ap (step state) (sym (some_same h)) ∙ e }

parted : (state : State) (all : List (List Placed)) (piece : List Placed) → first_wrong state all ≡ Some piece → Parted state all piece
unfolding first_wrong
parted state [] piece h = none_some h
parted state (first ∷ more) piece h = parted_next state first more piece (step state first) refl (λ next e. parted next more piece e) h

-- and the other way round
wrong_next : (found : Option State) (first : List Placed) (front behind : List (List Placed)) (piece : List Placed) (before : State)
    → ((next : State) → run next front ≡ Some before → first_wrong next (front ++ piece ∷ behind) ≡ Some piece)
    → (found >>= (λ next. run next front)) ≡ Some before → option_map_or (λ next. first_wrong next (front ++ piece ∷ behind)) found (Some first) ≡ Some piece
wrong_next (Some next) first front behind piece before go h = go next h
wrong_next None first front behind piece before go h = none_some h

wrong_from : (state : State) (front behind : List (List Placed)) (piece : List Placed) (before : State) → run state front ≡ Some before → step before piece ≡ None
    → first_wrong state (front ++ piece ∷ behind) ≡ Some piece
unfolding run first_wrong
wrong_from state [] behind piece before h e = rw (ap (λ s. step s piece) (some_same h) ∙ e) refl
wrong_from state (first ∷ front) behind piece before h e =
    wrong_next (step state first) first front behind piece before (λ next f. wrong_from next front behind piece before f e) h

-- no run goes past a piece that can't stand in its place
stuck_next : (found : Option State) (first piece : List Placed) (more : List (List Placed)) → ((next : State) → first_wrong next more ≡ Some piece → run next more ≡ None)
    → option_map_or (λ next. first_wrong next more) found (Some first) ≡ Some piece → (found >>= (λ next. run next more)) ≡ None
stuck_next (Some next) first piece more go h = go next h
stuck_next None first piece more go h = refl

stuck_run : (state : State) (all : List (List Placed)) (piece : List Placed) → first_wrong state all ≡ Some piece → run state all ≡ None
unfolding run first_wrong
stuck_run state [] piece h = none_some h
stuck_run state (first ∷ more) piece h = stuck_next (step state first) first piece more (λ next e. stuck_run next more piece e) h

run_stuck : (state before : State) (front behind : List (List Placed)) (piece : List Placed) → run state front ≡ Some before → step before piece ≡ None → run state (front ++ piece ∷ behind) ≡ None
run_stuck state before front behind piece h e = stuck_run state (front ++ piece ∷ behind) piece (wrong_from state front behind piece before h e)

some_none : {X A : Type 0} {x : X} (o : Option X) → o ≡ Some x → o ≡ None → A
some_none o h k = absurd (cc)

-- Where reading stops.

no_description : AreExact → (ts : List Placed) → run Start (pieces ts) ≡ None → IsDescription ts → ⊥
no_description exact ts h (d, e, right) = some_none (run Start (pieces ts)) (description_runs exact ts d e right) h

not_begun : (front : List (List Placed)) (piece : List Placed) (before : State) → run Start front ≡ Some before → step before piece ≡ None → Runs Start (front ++ piece ∷ []) → ⊥
not_begun front piece before h e (last, r) = some_none (run Start (front ++ piece ∷ [])) r (run_stuck Start before front [] piece h e)

stops_leaves_wrong : AreExact → (tokens : List Token) (at : ℕ) (piece : List Placed) → first_wrong Start (pieces (placed tokens)) ≡ Some piece → BeginsAt piece at → LeavesAt tokens at
stops_leaves_wrong exact tokens at piece h b =
    let p = parted Start (pieces (placed tokens)) piece h in record {
      none = no_description exact (placed tokens) (stuck_run Start (pieces (placed tokens)) piece h);
      place = inl (
        piece,
        (
          p.front,
          p.behind,
          p.whole,
          begins_from_run exact p.front p.before p.runs,
          λ k. not_begun p.front piece p.before p.runs p.stuck (run_from_begins exact (p.front ++ piece ∷ []) k),
        ),
        b,
      );
    }

pub leaves_from_stops : AreExact → (tokens : List Token) (at : ℕ) → StopsAt tokens at → LeavesAt tokens at
leaves_from_stops exact tokens at (inl (piece, h, b)) = stops_leaves_wrong exact tokens at piece h b
leaves_from_stops exact tokens at (inr (state, h, within, e)) = record {
  none = λ (d, f, right). within (description_of d) (some_same (sym h ∙ description_runs exact (placed tokens) d f right));
  place = inr (begins_from_run exact (pieces (placed tokens)) state h, e);
}

one_more : (found : Option State) (front : List (List Placed)) (piece : List Placed) (before next : State) → ((first : State) → run first front ≡ Some before → run first (front ++ piece ∷ []) ≡ Some next)
    → (found >>= (λ first. run first front)) ≡ Some before → (found >>= (λ first. run first (front ++ piece ∷ []))) ≡ Some next
one_more (Some first) front piece before next go h = go first h
one_more None front piece before next go h = none_some h

run_one_more : (state : State) (front : List (List Placed)) (piece : List Placed) (before next : State) → run state front ≡ Some before → step before piece ≡ Some next
    → run state (front ++ piece ∷ []) ≡ Some next
unfolding run
run_one_more state [] piece before next h e = rw (ap (λ s. step s piece) (some_same h) ∙ e) refl
run_one_more state (first ∷ front) piece before next h e = one_more (step state first) front piece before next (λ s f. run_one_more s front piece before next f e) h

stuck_there : AreExact → (front : List (List Placed)) (piece : List Placed) (before : State) → run Start front ≡ Some before → ¬ BeginDescription (front ++ piece ∷ []) → (found : Option State) → step before piece ≡ found → step before piece ≡ None
stuck_there exact front piece before h k (Some next) e = absurd (k (begins_from_run exact (front ++ piece ∷ []) next (run_one_more Start front piece before next h e)))
stuck_there exact front piece before h k None e = e

stops_wrong : AreExact → (tokens : List Token) (piece : List Placed) → IsFirstWrong (placed tokens) piece → first_wrong Start (pieces (placed tokens)) ≡ Some piece
stops_wrong exact tokens piece (front, behind, e, begins, k) =
    let r = run_from_begins exact front begins in
    ap (first_wrong Start) e ∙ wrong_from Start front behind piece r.0 r.1 (stuck_there exact front piece r.0 r.1 k (step r.0 piece) refl)

stops_end : AreExact → (tokens : List Token) (at : ℕ) → ¬ IsDescription (placed tokens) → Runs Start (pieces (placed tokens)) → at ≡ end_of tokens → StopsAt tokens at
stops_end exact tokens at none (last, h) e =
    inr (last, h, (λ desc f. (let r = reads_from_read exact tokens desc (h ∙ ap Some f) in none (r.0, r.1, r.2))), e)

stops_by_place : AreExact → (tokens : List Token) (at : ℕ) → ¬ IsDescription (placed tokens)
    → ((piece : List Placed) × IsFirstWrong (placed tokens) piece × BeginsAt piece at) ⊎ (BeginDescription (pieces (placed tokens)) × (at ≡ end_of tokens)) → StopsAt tokens at
stops_by_place exact tokens at none (inl (piece, h, b)) = inl (piece, stops_wrong exact tokens piece h, b)
stops_by_place exact tokens at none (inr (begins, e)) = stops_end exact tokens at none (run_from_begins exact (pieces (placed tokens)) begins) e

pub stops_from_leaves : AreExact → (tokens : List Token) (at : ℕ) → LeavesAt tokens at → StopsAt tokens at
stops_from_leaves exact tokens at l = stops_by_place exact tokens at l.none l.place

-- One place at most, and never beside a tree.

begins_once : (piece : List Placed) (a b : ℕ) → BeginsAt piece a → BeginsAt piece b → a ≡ b
begins_once piece a b (t, ts, e, f) (u, us, g, h) =
    let same : t ∷ ts ≡ u ∷ us = sym e ∙ g in
    let first : t ≡ u = cc in
    f ∙ (ap (λ (x : Placed). x.at) first ∙ sym h)

stops_once : (tokens : List Token) (a b : ℕ) → StopsAt tokens a → StopsAt tokens b → a ≡ b
stops_once tokens a b (inl (p, h, e)) (inl (q, k, f)) = begins_once p a b e (subst (λ (x : List Placed). BeginsAt x b) (some_same (sym k ∙ h)) f)
stops_once tokens a b (inl (p, h, e)) (inr (s, k, within, f)) = some_none (run Start (pieces (placed tokens))) k (stuck_run Start (pieces (placed tokens)) p h)
stops_once tokens a b (inr (s, k, within, f)) (inl (p, h, e)) = some_none (run Start (pieces (placed tokens))) k (stuck_run Start (pieces (placed tokens)) p h)
stops_once tokens a b (inr (s, k, within, f)) (inr (r, l, out, g)) = f ∙ sym g

read_not_stops : {A : Type 0} (tokens : List Token) (desc : Desc) (at : ℕ) → IsRead tokens desc → StopsAt tokens at → A
read_not_stops tokens desc at h (inl (p, k, e)) = some_none (run Start (pieces (placed tokens))) h (stuck_run Start (pieces (placed tokens)) p k)
read_not_stops tokens desc at h (inr (s, k, within, f)) = absurd (within desc (some_same (sym k ∙ h)))

behind_same : (x y : Desc) → Behind x ≡ Behind y → x ≡ y
behind_same x y h = cc

pub tree_once : AreExact → (tokens : List Token) (x y : Desc) → Reads tokens x → Reads tokens y → x ≡ y
tree_once exact tokens x y h k = behind_same x y (some_same (sym (read_from_reads exact tokens x h) ∙ read_from_reads exact tokens y k))

pub place_once : AreExact → (tokens : List Token) (a b : ℕ) → LeavesAt tokens a → LeavesAt tokens b → a ≡ b
place_once exact tokens a b h k = stops_once tokens a b (stops_from_leaves exact tokens a h) (stops_from_leaves exact tokens b k)

pub not_both : {A : Type 0} (tokens : List Token) (desc : Desc) (at : ℕ) → Reads tokens desc → LeavesAt tokens at → A
not_both tokens desc at (d, e, right, f) l = absurd (l.none (d, e, right))

-- A tree or a place always.

-- each piece has a first token
abbrev HasFirst : List Placed → Type 0
HasFirst piece = (at : ℕ) × BeginsAt piece at

abbrev HaveFirst : List (List Placed) → Type 0
HaveFirst [] = Unit {0}
HaveFirst (piece ∷ more) = HasFirst piece × HaveFirst more

first_before : (begins : Bool) (t : Placed) (behind : Cut) → HaveFirst behind.1 → HaveFirst (cut_before begins t behind).1
first_before true t behind h = ((t.at, (t, behind.0, refl, refl)), h)
first_before false t behind h = h

first_cut : (d : Depths) (fresh : Bool) (ts : List Placed) → HaveFirst (cut d fresh ts).1
unfolding cut
first_cut d fresh [] = tt
first_cut d fresh (t ∷ ts) = first_before (fresh || begins_piece d t.kind) t (cut (depths_behind t.kind d) (closes_part d t.kind) ts) (first_cut (depths_behind t.kind d) (closes_part d t.kind) ts)

first_of_piece : (front : List (List Placed)) (piece : List Placed) (behind : List (List Placed)) → HaveFirst (front ++ piece ∷ behind) → HasFirst piece
first_of_piece [] piece behind (h, k) = h
first_of_piece (p ∷ front) piece behind (h, k) = first_of_piece front piece behind k

wrong_first : (tokens : List Token) (piece : List Placed) → first_wrong Start (pieces (placed tokens)) ≡ Some piece → HasFirst piece
wrong_first tokens piece h =
    let p = parted Start (pieces (placed tokens)) piece h in
    first_of_piece p.front piece p.behind (subst HaveFirst p.whole (first_cut no_depths true (placed tokens)))

next_or_wrong : (found : Option State) (first : List Placed) (more : List (List Placed)) → ((next : State) → ((last : State) × (run next more ≡ Some last)) ⊎ ((piece : List Placed) × (first_wrong next more ≡ Some piece)))
    → ((last : State) × ((found >>= (λ next. run next more)) ≡ Some last)) ⊎ ((piece : List Placed) × (option_map_or (λ next. first_wrong next more) found (Some first) ≡ Some piece))
next_or_wrong (Some next) first more go = go next
next_or_wrong None first more go = inr (first, refl)

-- each piece can stand in its place, or one is the first that can't
run_or_wrong : (state : State) (all : List (List Placed)) → ((last : State) × (run state all ≡ Some last)) ⊎ ((piece : List Placed) × (first_wrong state all ≡ Some piece))
unfolding run first_wrong
run_or_wrong state [] = inl (state, refl)
run_or_wrong state (first ∷ more) = next_or_wrong (step state first) first more (λ next. run_or_wrong next more)

abbrev Outcome : List Token → Type 0
Outcome tokens = ((desc : Desc) × IsRead tokens desc) ⊎ ((at : ℕ) × StopsAt tokens at)

outcome_at : (tokens : List Token) (last : State) → run Start (pieces (placed tokens)) ≡ Some last → Outcome tokens
outcome_at tokens (Behind desc) h = inl (desc, h)
outcome_at tokens Start h = inr (end_of tokens, inr (Start, h, (λ desc e. absurd (cc)), refl))
outcome_at tokens (InIsa heading items) h = inr (end_of tokens, inr (InIsa heading items, h, (λ desc e. absurd (cc)), refl))
outcome_at tokens (InAbi d heading roles) h = inr (end_of tokens, inr (InAbi d heading roles, h, (λ desc e. absurd (cc)), refl))
outcome_at tokens (InMicro d heading items) h = inr (end_of tokens, inr (InMicro d heading items, h, (λ desc e. absurd (cc)), refl))

outcome_by : (tokens : List Token) → ((last : State) × (run Start (pieces (placed tokens)) ≡ Some last)) ⊎ ((piece : List Placed) × (first_wrong Start (pieces (placed tokens)) ≡ Some piece)) → Outcome tokens
outcome_by tokens (inl (last, h)) = outcome_at tokens last h
outcome_by tokens (inr (piece, h)) = let f = wrong_first tokens piece h in inr (f.0, inl (piece, h, f.1))

tree_or_place_by : AreExact → (tokens : List Token) → Outcome tokens → ((desc : Desc) × Reads tokens desc) ⊎ ((at : ℕ) × LeavesAt tokens at)
tree_or_place_by exact tokens (inl (desc, h)) = inl (desc, reads_from_read exact tokens desc h)
tree_or_place_by exact tokens (inr (at, h)) = inr (at, leaves_from_stops exact tokens at h)

pub tree_or_place : AreExact → (tokens : List Token) → ((desc : Desc) × Reads tokens desc) ⊎ ((at : ℕ) × LeavesAt tokens at)
tree_or_place exact tokens = tree_or_place_by exact tokens (outcome_by tokens (run_or_wrong Start (pieces (placed tokens))))
