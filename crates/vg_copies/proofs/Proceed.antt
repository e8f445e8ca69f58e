-- From one move to the next that has nothing left to wait for.
use Rattle.std.proofs.Common.{◌≡◌, ℕ, ◌-◌, ◌<◌, ◌≤◌, inl, inr, Bool, true, false, not, ◌&&◌, true≢false, List, length, Option, Some, None, sym, refl, ap, ◌∙◌, subst, arith}
use Rattle.std.specs.Prelude.{slice_get, slice_index, slice_index_or, count_by}
use Rattle.std.proofs.lemmas.List.{length-map, get_or_read}
use Rattle.std.proofs.lemmas.Bool.Decides.{eqb_tells}
use Rattle.std.proofs.lemmas.List.Sums.{count_by-le-length}
use Rattle.std.proofs.lemmas.Option.{none-some, slice_get_within}
use Rattle.vg_goal.specs.declared.place.Place.{Place}
use Rattle.vg_goal.specs.Places.{same_place}
use Rattle.vg_goal.proofs.Same.{same_place-refl}
use Rattle.vg_copies.specs.declared.pending.Pending.{Pending}
use Rattle.vg_copies.specs.declared.schedule.Schedule.{Schedule}
use Rattle.vg_copies.specs.Copies.{Move}
use Rattle.vg_copies.specs.Schedule.{IsAt, Waits, reads, finished, IsSound, IsFree, IsBlocked, Proceeds, ends_of}
use Rattle.vg_goal.proofs.Lists.{some_same, Has-count}

-- what holds behind no move holds behind any
pub IsSound-behind : (s : Schedule) (i : ℕ) → IsSound None s → IsSound (Some i) s
IsSound-behind s i sound =
    let stands = sound.stands in
    let held = stands.within in
    record {
      stands = record {
        lengths = stands.lengths;
        apart = stands.apart;
        single = stands.single;
        done = stands.done;
        kept = stands.kept;
        unread = stands.unread;
        aside = stands.aside;
        gone = λ k step waits. stands.gone k step (waits.0, λ (e : None ≡ Some k). none-some k e);
        counted = stands.counted;
        ends = stands.ends;
        within = omega arith;
        settled = λ none. omega arith;
      };
      numbered = sound.numbered;
    }

-- the count that was read is that of the next move
pub count_read : (s : Schedule) (k r : ℕ) → IsSound None s → ((step : Pending) × Waits s.moves.items k step) → r ≡ slice_index_or s.readers.items k r → r ≡ slice_index s.readers.items k
count_read s k r sound at read =
    let lengths = sound.stands.lengths in
    let below = slice_get_within s.moves.items k at.0 at.1.0 in
    let within : k < length s.readers.items = omega arith in
    get_or_read s.readers.items k r within read 0

-- a move that no other one waits for is free
pub IsFree-uncounted : (s : Schedule) (i : ℕ) → IsSound None s → ((step : Pending) × Waits s.moves.items i step) → slice_index s.readers.items i ≤ 0 → IsFree s i
IsFree-uncounted s i sound at none = record {
  step = at.0;
  waits = at.1;
  free = λ k other waits into. absurd (
      let some = Has-count (reads at.0.destination) s.moves.items k other waits.0 (
      ap (λ (b : Bool). not b && same_place other.source at.0.destination) waits.1 ∙ ap (λ (p : Place). same_place p at.0.destination) into ∙ same_place-refl at.0.destination
      ) in
      let counted = sound.stands.counted i at.0 at.1 in
      let nothing : ⊥ = omega arith in
      nothing
      );
}

module _ (old mid : Schedule) (start : ℕ) where
  -- a move that is blocked is not done next
  pub Proceeds-stops : (k : ℕ) → 0 < slice_index mid.readers.items k → Proceeds old mid start (Some k) → Proceeds old mid start None
  Proceeds-stops k some before = record {
    spare = before.spare;
    moves = before.moves;
    first = before.first;
    waits = before.waits;
    blocked = λ j step waits other was. elim (eqb_tells j k) [
      | inl (_, same) ↦ subst (λ (n : ℕ). IsBlocked mid n) (sym same) some
      | inr (_, differ) ↦ before.blocked j step waits (λ (e : Some k ≡ Some j). differ (sym (some_same k j e))) was
    ];
    fewer = before.fewer;
  }

  -- one more move is done
  pub Proceeds-goes_on : (new : Schedule) (k : ℕ) (next : Option ℕ) → Proceeds old mid start (Some k) → Proceeds mid new k next → Proceeds old new start next
  Proceeds-goes_on new k next before after =
      let a = before.fewer in
      let b = after.fewer in
      record {
        spare = after.spare ∙ before.spare;
        moves = after.moves ∙ before.moves;
        first = λ step at. by step at step.is_done refl;
        waits = λ j step waits. before.waits j step (after.waits j step waits);
        blocked = λ j step waits other was.
            let waited = after.waits j step waits in
            elim (eqb_tells j k) [
              | inl (_, same) ↦ absurd (true≢false (sym (after.first step (ap (slice_get new.moves.items) (sym same) ∙ waits.0)) ∙ waits.1))
              | inr (_, differ) ↦ after.blocked j step waits other (before.blocked j step waited (λ (e : Some k ≡ Some j). differ (sym (some_same k j e))) was)
            ];
        fewer = omega arith;
      }
    where
      by : (step : Pending) → IsAt new.moves.items start step → (b : Bool) → step.is_done ≡ b → step.is_done ≡ true
      by step at true e = e
      by step at false e = before.first step (after.waits start step (at, e)).0

-- there are as many moves as before
pub Proceeds-length : (old new : Schedule) (start : ℕ) (next : Option ℕ) → Proceeds old new start next → length new.moves.items ≡ length old.moves.items
Proceeds-length old new start next made = sym (length-map new.moves.items ends_of) ∙ ap (λ (xs : List Move). length xs) made.moves ∙ length-map old.moves.items ends_of

pub Proceeds-measure : (old new : Schedule) (start : ℕ) (next : Option ℕ) → Proceeds old new start next → length new.moves.items - count_by finished new.moves.items < length old.moves.items - count_by finished old.moves.items
Proceeds-measure old new start next made =
    let a = made.fewer in
    let b = Proceeds-length old new start next made in
    let c = count_by-le-length finished new.moves.items in
    omega arith
