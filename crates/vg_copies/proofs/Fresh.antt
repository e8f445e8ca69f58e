-- No move is done.
use Rattle.std.proofs.Common.{◌≡◌, ◌≢◌, ℕ, zero, suc, inl, inr, Bool, true, false, not, cond, filter, List, [], ◌∷◌, length, map, Some, None, sym, refl, ap, ◌∙◌, subst, arith, true≢false}
use Rattle.std.specs.Prelude.{slice_get, slice_index_or, count_by, AllPairs}
use Rattle.std.specs.List.{All}
use Rattle.std.proofs.lemmas.Option.{none-some, slice_get_within, get_or_from_slice_get}
use Rattle.vg_goal.specs.declared.place.Place.{Place}
use Rattle.vg_goal.specs.Places.{same_place}
use Rattle.vg_goal.proofs.Same.{same_place-cases, same_place-refl}
use Rattle.vg_copies.specs.declared.pending.Pending.{Pending}
use Rattle.vg_copies.specs.Copies.{Move, leaves}
use Rattle.vg_copies.specs.Schedule.{IsAt, finished, pending_of, ends_of, AreSingle, AreCounted, Stands}
use Rattle.vg_goal.proofs.Lists.{Has-from_filter, at_from_map, some_same}

-- a move to another place has two ends
pub leaves-differ : (move : Move) → leaves move ≡ true → move.0 ≢ move.1
leaves-differ move test same = true≢false (sym test ∙ ap not (ap (same_place move.0) (sym same) ∙ same_place-refl move.0))

pub stays-same : (move : Move) → leaves move ≡ false → move.0 ≡ move.1
stays-same move test = elim (same_place-cases move.0 move.1) [
  | inl e ↦ e.1
  | inr e ↦ absurd (true≢false (sym (ap not e.0) ∙ test))
]

abbrev fresh : List Move → List Pending
fresh moves = map pending_of (filter leaves moves)

pub map-ends : (moves : List Move) → map ends_of (map pending_of moves) ≡ moves
map-ends [] = refl
map-ends (x ∷ xs) = ap (λ (ys : List Move). x ∷ ys) (map-ends xs)

abbrev Differs : List Move → Type 0
Differs kept = (j k : ℕ) (a b : Move) → slice_get kept j ≡ Some a → slice_get kept k ≡ Some b → a.1 ≡ b.1 → j ≡ k

-- what a filter keeps at different places stood at different places
differ_at : (p : Move → Bool) (moves : List Move) → AllPairs (λ a b. a.1 ≢ b.1) moves → Differs (filter p moves)
differ_at p [] apart = λ j k a b at_a at_b same. absurd (none-some a at_a)
differ_at p (x ∷ xs) apart = by (p x) refl (differ_at p xs (λ i j d before below. apart (suc i) (suc j) d (omega arith) (omega arith)))
  where
    -- the first move has another destination than each behind it
    first : (k : ℕ) (b : Move) → slice_get (filter p xs) k ≡ Some b → x.1 ≢ b.1
    first k b at same =
        let from = Has-from_filter p xs b (k, at) in
        let below = slice_get_within xs from.0.0 b from.0.1 in
        apart 0 (suc from.0.0) b (omega arith) (omega arith) (same ∙ ap (λ (m : Move). m.1) (sym (get_or_from_slice_get xs from.0.0 b b from.0.1)))

    kept : Differs (filter p xs) → Differs (x ∷ filter p xs)
    kept rest zero zero a b at_a at_b same = refl
    kept rest zero (suc k) a b at_a at_b same = absurd (first k b at_b (ap (λ (m : Move). m.1) (some_same x a at_a) ∙ same))
    kept rest (suc j) zero a b at_a at_b same = absurd (first j a at_a (ap (λ (m : Move). m.1) (some_same x b at_b) ∙ sym same))
    kept rest (suc j) (suc k) a b at_a at_b same = ap suc (rest j k a b at_a at_b same)

    by : (b : Bool) → p x ≡ b → Differs (filter p xs) → Differs (filter p (x ∷ xs))
    by true e rest = subst (λ (b : Bool). Differs (cond b (x ∷ filter p xs) (filter p xs))) (sym e) (kept rest)
    by false e rest = subst (λ (b : Bool). Differs (cond b (x ∷ filter p xs) (filter p xs))) (sym e) rest

pub single-fresh : (moves : List Move) → AllPairs (λ a b. a.1 ≢ b.1) moves → AreSingle (fresh moves)
single-fresh moves apart = λ j k a b at_a at_b same.
    let x = at_from_map pending_of (filter leaves moves) j a at_a in
    let y = at_from_map pending_of (filter leaves moves) k b at_b in
    differ_at leaves moves apart j k x.0 y.0 x.1 y.1 (ap (λ (s : Pending). s.destination) x.2 ∙ same ∙ ap (λ (s : Pending). s.destination) (sym y.2))

pub waiting-fresh : (moves : List Move) (k : ℕ) (step : Pending) → IsAt (fresh moves) k step → step.is_done ≡ false
waiting-fresh moves k step at =
    let x = at_from_map pending_of (filter leaves moves) k step at in
    ap (λ (s : Pending). s.is_done) (sym x.2)

none-finished : (moves : List Move) → count_by finished (map pending_of moves) ≡ 0
none-finished [] = refl
none-finished (x ∷ xs) = none-finished xs

pub Stands-fresh : (moves : List Move) (spare : Place) (readers : List ℕ) → AllPairs (λ a b. a.1 ≢ b.1) moves → All (λ step. (step.0 ≢ spare) × (step.1 ≢ spare)) moves
    → length readers ≡ length (fresh moves) → AreCounted readers (fresh moves) → Stands spare None (fresh moves) readers None []
Stands-fresh moves spare readers apart away lengths counted = record {
  lengths = lengths;
  apart = λ k step at.
      let x = at_from_map pending_of (filter leaves moves) k step at in
      let from = Has-from_filter leaves moves x.0 (k, x.1) in
      let both = away from.0.0 x.0 (slice_get_within moves from.0.0 x.0 from.0.1) in
      let here : slice_index_or moves from.0.0 x.0 ≡ x.0 = get_or_from_slice_get moves from.0.0 x.0 x.0 from.0.1 in
      let ends : (x.0.0 ≢ spare) × (x.0.1 ≢ spare) = subst (λ (m : Move). (m.0 ≢ spare) × (m.1 ≢ spare)) here both in
      subst (λ (s : Pending). (s.source ≢ spare) × (s.destination ≢ spare) × (s.source ≢ s.destination)) x.2 (ends.0, ends.1, leaves-differ x.0 from.1);
  single = single-fresh moves apart;
  done = λ k step at done cells. absurd (true≢false (sym done ∙ waiting-fresh moves k step at));
  kept = λ cells place other untouched. refl;
  unread = λ j k a b waits at done same. absurd (true≢false (sym done ∙ waiting-fresh moves k b at));
  aside = λ place is. absurd (none-some place is);
  gone = λ k step waits is. none-some step.destination is;
  counted = counted;
  ends = λ copy among. absurd (none-some copy (search arith));
  within = omega arith;
  settled = λ none. omega arith;
}
