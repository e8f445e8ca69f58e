-- One more move is in the table.
use Rattle.std.proofs.Common.{◌≡◌, ◌<◌, Some, length, take, get_or, cond, subst, sym, arith}
use Rattle.std.proofs.lemmas.List.{take_more, length-take}
use Rattle.indexmap.specs.IndexMap.{get_by}
use Rattle.vg_goal.specs.declared.place.Place.{Place}
use Rattle.vg_goal.specs.declared.place.Place.TheVariants.{Saved}
use Rattle.vg_goal.specs.Places.{same_place}
use Rattle.vg_copies.specs.declared.pending.Pending.{Pending}
use Rattle.vg_copies.specs.Schedule.{IsNumbered, pending_of}
use Rattle.vg_copies.proofs.Tables.{updates_at, numbered_push}
use Rattle.vg_copies.proofs.schedule.numbers_of.Goals as goal

pub loop-number-preserved : goal.loop-number-preserved
loop-number-preserved c =
    let steps = c.args.moves.now in
    let i = c.loop-number.number in
    let none : Pending = pending_of (Saved 0, Saved 0) in
    let below : i < length steps = c.loop-number-test.true in
    let first = length-take i steps in
    let last : i ≡ length (take i steps) = omega arith in
    let updates : (q : Place) → get_by (same_place q) c.insert.new.self ≡ cond (same_place (get_or steps i none).destination q) (Some i) (get_by (same_place q) c.loop-number.numbers) = updates_at c.loop-number.numbers c.insert.new.self (get_or steps i none).destination i c.in_ok-insert.ensures.updates in
    subst (IsNumbered c.insert.new.self) (sym (take_more steps i none below)) (
    numbered_push c.loop-number.numbers c.insert.new.self (take i steps) (get_or steps i none) i c.loop-number.invariant updates last
    )
