-- After the first loop all moves that are left wait for others; after the second none is left.
use Rattle.std.proofs.Common.{◌≡◌, ◌∙◌, ℕ, None, true, arith, rules, subst}
use Rattle.std.proofs.lemmas.Option.{slice_get_within}
use Rattle.vg_goal.specs.declared.place.Place.{Place}
use Rattle.vg_copies.specs.declared.pending.Pending.{Pending}
use Rattle.vg_copies.specs.Schedule.{IsAt, Stands}
use Rattle.vg_copies.proofs.Advance.{Advances-length, blocked_more, blocked_all, done_more}
use Rattle.vg_copies.proofs.Whole.{DoesAtOnce-done}
use Rattle.vg_copies.proofs.ordering.order.Goals as goal

pub loop-number-preserved : goal.loop-number-preserved
loop-number-preserved c =
    let old = c.loop-number.schedule in
    let new = c.follow_if_free.new.self in
    let made = c.in_ok-follow_if_free.ensures.advances in
    let before = c.loop-number.invariant in
    record {
      sound = c.in_ok-follow_if_free.ensures.sound;
      spare = made.spare ∙ before.spare;
      moves = made.moves ∙ before.moves;
      count = Advances-length old new made ∙ before.count;
      blocked = blocked_more old new made c.loop-number.number before.blocked c.in_ok-follow_if_free.ensures.blocked;
    }

pub loop-number-2-init : goal.loop-number-2-init
loop-number-2-init c =
    let s = c.loop-number.schedule in
    let before = c.loop-number.invariant in
    record {
      sound = before.sound;
      spare = before.spare;
      moves = before.moves;
      count = search rules;
      blocked = λ k step waits.
          let below = slice_get_within s.moves.items k step waits.0 in
          let count = before.count in
          before.blocked k step (omega arith) waits;
      done = λ k step below at. absurd (omega arith);
    }

pub loop-number-2-preserved : goal.loop-number-2-preserved
loop-number-2-preserved c =
    let old = c.loop-number-2.schedule in
    let new = c.open_ring_if_left.new.self in
    let made = c.in_ok-open_ring_if_left.ensures.advances in
    let before = c.loop-number-2.invariant in
    record {
      sound = c.in_ok-open_ring_if_left.ensures.sound;
      spare = made.spare ∙ before.spare;
      moves = made.moves ∙ before.moves;
      count = Advances-length old new made ∙ before.count;
      blocked = blocked_all old new made before.blocked;
      done = done_more old new made c.loop-number-2.number before.done c.in_ok-open_ring_if_left.ensures.done;
    }

pub returns : goal.returns
returns c =
    let s = c.loop-number-2.schedule in
    let before = c.loop-number-2.invariant in
    let all : (k : ℕ) (step : Pending) → IsAt s.moves.items k step → step.is_done ≡ true = λ k step at.
    let below = slice_get_within s.moves.items k step at in
    let count = before.count in
    before.done k step (omega arith) at in
    let stands : Stands c.args.spare None s.moves.items s.readers.items s.saved s.copies.items = subst (λ (p : Place). Stands p None s.moves.items s.readers.items s.saved s.copies.items) before.spare before.sound.stands in
    DoesAtOnce-done c.args.moves.now c.args.spare s.moves.items s.readers.items s.saved s.copies.items c.requires.destinations c.requires.spare before.moves stands all
