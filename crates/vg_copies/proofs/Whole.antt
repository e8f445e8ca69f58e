-- All moves are done.
use Rattle.std.proofs.Common.{◌≡◌, ◌≢◌, ℕ, ◌*◌, ◌<◌, ◌≤◌, ◌⊎◌, inl, inr, Bool, true, false, filter, List, length, map, Option, None, sym, refl, ap, ◌∙◌, subst, arith, Contains, true≢false}
use Rattle.std.specs.Prelude.{slice_get, count_by, AllPairs}
use Rattle.std.specs.List.{All}
use Rattle.std.proofs.lemmas.Option.{slice_get_within, get_or_from_slice_get}
use Rattle.std.proofs.lemmas.Bool.{cases_lt}
use Rattle.std.proofs.lemmas.List.{length-map}
use Rattle.std.proofs.lemmas.List.Sums.{count_by-le-length, length-filter}
use Rattle.vg_goal.specs.declared.place.Place.{Place}
use Rattle.vg_copies.specs.declared.pending.Pending.{Pending}
use Rattle.vg_copies.specs.Copies.{Move, Cells, after, leaves}
use Rattle.vg_copies.specs.AtOnce.{IsRead, IsWritten, DoesAtOnce}
use Rattle.vg_copies.specs.Schedule.{IsAt, finished, ends_of, Stands}
use Rattle.vg_goal.proofs.Lists.{Has, Has-filter, Has-from_filter, at_map, at_from_map, Contains-from_Has, Has-from_Contains, some_same}
use Rattle.vg_copies.proofs.Fresh.{stays-same}

module _ (moves : List Move) (spare : Place) (steps : List Pending) (readers : List ℕ) (saved : Option Place) (copies : List Move)
    (apart : AllPairs (λ a b. a.1 ≢ b.1) moves) (away : All (λ step. (step.0 ≢ spare) × (step.1 ≢ spare)) moves)
    (ends : map ends_of steps ≡ filter leaves moves) (stands : Stands spare None steps readers saved copies)
    (all : (k : ℕ) (step : Pending) → IsAt steps k step → step.is_done ≡ true) where
  -- which move each one is
  move_of : (k : ℕ) (step : Pending) → IsAt steps k step → Has moves (step.source, step.destination) × (leaves (step.source, step.destination) ≡ true)
  move_of k step at = Has-from_filter leaves moves (step.source, step.destination) (k, ap (λ (xs : List Move). slice_get xs k) (sym ends) ∙ at_map ends_of steps k step at)

  step_of : (move : Move) → Has moves move → leaves move ≡ true → (k : ℕ) × (step : Pending) × IsAt steps k step × (ends_of step ≡ move)
  step_of move has test =
      let found = Has-filter leaves moves move has test in
      let step = at_from_map ends_of steps found.0 move (ap (λ (xs : List Move). slice_get xs found.0) ends ∙ found.1) in
      (found.0, step.0, step.1, step.2)

  -- moves with one destination are one
  one_into : (a b : Move) → Has moves a → Has moves b → a.1 ≡ b.1 → a ≡ b
  one_into a b has_a has_b same = elim (cases_lt has_a.0 has_b.0) [
    | inl below ↦ absurd (differ a b has_a has_b below same)
    | inr above ↦ elim (cases_lt has_b.0 has_a.0) [
      | inl below ↦ absurd (differ b a has_b has_a below (sym same))
      | inr over ↦
          let equal : has_a.0 ≡ has_b.0 = omega arith in
          some_same a b (sym has_a.1 ∙ ap (slice_get moves) equal ∙ has_b.1)
    ]
  ]
    where
      differ : (x y : Move) (has_x : Has moves x) (has_y : Has moves y) → has_x.0 < has_y.0 → x.1 ≢ y.1
      differ x y has_x has_y below =
          let here = apart has_x.0 has_y.0 x below (slice_get_within moves has_y.0 y has_y.1) in
          λ equal. here (
          ap (λ (m : Move). m.1) (get_or_from_slice_get moves has_x.0 x x has_x.1) ∙ equal ∙ ap (λ (m : Move). m.1) (sym (get_or_from_slice_get moves has_y.0 y x has_y.1))
          )

  moved : (cells : Cells) (move : Move) → Contains moves move → after copies cells move.1 ≡ cells move.0
  moved cells move among = by (leaves move) refl
    where
      has : Has moves move
      has = Has-from_Contains moves move among

      by : (b : Bool) → leaves move ≡ b → after copies cells move.1 ≡ cells move.0
      by true test =
          let found = step_of move has test in
          ap (λ (m : Move). after copies cells m.1) (sym found.3) ∙ stands.done found.0 found.1 found.2 (all found.0 found.1 found.2) cells ∙ ap (λ (m : Move). cells m.0) found.3
      by false test =
          let here = away has.0 move (slice_get_within moves has.0 move has.1) in
          let read = get_or_from_slice_get moves has.0 move move has.1 in
          let other : move.1 ≢ spare = subst (λ (m : Move). m.1 ≢ spare) read here.1 in
          stands.kept cells move.1 other (λ k step at done into.
          let mine = move_of k step at in
          let one : (step.source, step.destination) ≡ move = one_into (step.source, step.destination) move mine.0 has into in
          true≢false (sym mine.1 ∙ ap leaves one ∙ test))
          ∙ ap cells (sym (stays-same move test))

  kept : (cells : Cells) (place : Place) → place ≢ spare → ((move : Move) → Contains moves move → move.1 ≢ place) → after copies cells place ≡ cells place
  kept cells place other untouched =
      stands.kept cells place other (λ k step at done. untouched (step.source, step.destination) (Contains-from_Has moves (step.source, step.destination) (move_of k step at).0))

  read_end : (place : Place) → (place ≡ spare) ⊎ Contains (map (λ (s : Pending). s.source) steps) place → IsRead moves spare place
  read_end place end = elim end [
    | inl same ↦ inl same
    | inr among ↦
        let has = Has-from_Contains (map (λ (s : Pending). s.source) steps) place among in
        let step = at_from_map (λ (s : Pending). s.source) steps has.0 place has.1 in
        let mine = move_of has.0 step.0 step.1 in
        inr ((step.0.source, step.0.destination), Contains-from_Has moves (step.0.source, step.0.destination) mine.0, mine.1, sym step.2)
  ]

  written_end : (place : Place) → (place ≡ spare) ⊎ Contains (map (λ (s : Pending). s.destination) steps) place → IsWritten moves spare place
  written_end place end = elim end [
    | inl same ↦ inl same
    | inr among ↦
        let has = Has-from_Contains (map (λ (s : Pending). s.destination) steps) place among in
        let step = at_from_map (λ (s : Pending). s.destination) steps has.0 place has.1 in
        let mine = move_of has.0 step.0 step.1 in
        inr ((step.0.source, step.0.destination), Contains-from_Has moves (step.0.source, step.0.destination) mine.0, mine.1, sym step.2)
  ]

  few : 2 * length copies ≤ 3 * count_by leaves moves
  few =
      let counted = stands.settled (λ k step waits. absurd (true≢false (sym (all k step waits.0.0) ∙ waits.0.1))) in
      let most = count_by-le-length finished steps in
      let a = length-map steps ends_of in
      let b = ap (λ (xs : List Move). length xs) ends in
      let c = length-filter leaves moves in
      omega arith

  pub DoesAtOnce-done : DoesAtOnce moves spare copies
  DoesAtOnce-done = record {
    moved = moved;
    kept = kept;
    ends = λ copy among. let both = stands.ends copy among in (read_end copy.0 both.0, written_end copy.1 both.1);
    few = few;
  }
