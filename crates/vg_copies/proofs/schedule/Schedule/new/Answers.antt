-- The moves to other places wait.
use Rattle.std.proofs.Common.{◌≡◌, List, map, filter, length, get_or, None, false, subst, sym, ap, ◌∙◌}
use Rattle.std.specs.List.{All}
use Rattle.std.proofs.lemmas.Option.{slice_get-get_or}
use Rattle.vg_copies.specs.declared.pending.Pending.{Pending}
use Rattle.vg_copies.specs.Copies.{leaves}
use Rattle.vg_copies.specs.Schedule.{IsNumbered, AreSingle, AreCounted, Stands, ends_of, pending_of}
use Rattle.vg_copies.proofs.Fresh.{map-ends, single-fresh, waiting-fresh, Stands-fresh}
use Rattle.vg_copies.proofs.schedule.Schedule.new.Goals as goal

pub readers_of-requires-clause-single : goal.readers_of-requires-clause-single
readers_of-requires-clause-single c =
    let moves = c.args.moves.now in
    let is : c.as_slice-2.result.now ≡ map pending_of (filter leaves moves) = c.as_slice-2.ensures.value ∙ c.in_ok-moves.ensures in
    subst AreSingle (sym is) (single-fresh moves c.requires.destinations)

pub readers_of-requires-clause-waiting : goal.readers_of-requires-clause-waiting
readers_of-requires-clause-waiting c =
    let moves = c.args.moves.now in
    let steps = map pending_of (filter leaves moves) in
    let is : c.as_slice-2.result.now ≡ map pending_of (filter leaves moves) = c.as_slice-2.ensures.value ∙ c.in_ok-moves.ensures in
    subst (All (λ (step : Pending). step.is_done ≡ false)) (sym is) (λ k d below. waiting-fresh moves k (get_or steps k d) (slice_get-get_or steps k d below))

pub returns-clause-sound : goal.returns-clause-sound
returns-clause-sound c =
    let moves = c.args.moves.now in
    let steps = map pending_of (filter leaves moves) in
    let is : c.in_ok-moves.moves.items ≡ steps = c.in_ok-moves.ensures in
    let second : c.as_slice-2.result.now ≡ steps = c.as_slice-2.ensures.value ∙ is in
    let lengths : length c.in_ok-readers.readers.items ≡ length steps = c.in_ok-readers.ensures.lengths ∙ ap (λ (xs : List Pending). length xs) second in
    let counted : AreCounted c.in_ok-readers.readers.items steps = subst (AreCounted c.in_ok-readers.readers.items) second c.in_ok-readers.ensures.counted in
    let stands = Stands-fresh moves c.args.spare c.in_ok-readers.readers.items c.requires.destinations c.requires.spare lengths counted in
    record {
      stands =
          subst (λ (xs : List Pending). Stands c.args.spare None xs c.in_ok-readers.readers.items None c.new.result.items) (sym is) (
          subst (Stands c.args.spare None steps c.in_ok-readers.readers.items None) (sym c.new.ensures.items) stands
          );
      numbered = subst (IsNumbered c.in_ok-numbers.numbers) c.as_slice.ensures.value c.in_ok-numbers.ensures;
    }

pub returns-clause-moves : goal.returns-clause-moves
returns-clause-moves c = ap (map ends_of) c.in_ok-moves.ensures ∙ map-ends (filter leaves c.args.moves.now)
