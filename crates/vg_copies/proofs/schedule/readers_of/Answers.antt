-- One more move is counted.
use Rattle.std.proofs.Common.{◌≡◌, ℕ, sym, rules, length, ◌<◌, ◌^◌, ◌+◌, List, get_or, subst}
use Rattle.std.proofs.lemmas.List.{get_or_default}
use Rattle.vg_goal.specs.declared.place.Place.TheVariants.{Saved}
use Rattle.vg_copies.specs.declared.pending.Pending.{Pending}
use Rattle.vg_copies.specs.Schedule.{pending_of}
use Rattle.vg_copies.proofs.Tables.{CountsFirst, count_fits, counts_more}
use Rattle.vg_copies.proofs.schedule.readers_of.Goals as goal

pub note_reader-requires : goal.note_reader-requires
note_reader-requires c =
    let steps = c.args.moves.now in
    let small : length steps < 2 ^ 63 = search rules in
    λ k is. count_fits c.args.numbers.now steps c.requires.numbered c.requires.single c.requires.waiting c.loop-step.readers.items c.loop-step.step-index _ k c.loop-step.invariant c.loop-step-test.true small is

pub loop-step-preserved : goal.loop-step-preserved
loop-step-preserved c =
    let steps = c.args.moves.now in
    let i = c.loop-step.step-index in
    let none : Pending = pending_of (Saved 0, Saved 0) in
    let x = get_or steps i none in
    let read : x ≡ get_or steps i x = get_or_default steps i none x c.loop-step-test.true in
    let more = counts_more c.args.numbers.now steps c.requires.numbered c.requires.single c.requires.waiting c.loop-step.readers.items i x c.loop-step.invariant c.loop-step-test.true read in
    subst (λ (counts : List ℕ). CountsFirst steps counts (i + 1)) (sym c.note_reader.ensures) more
