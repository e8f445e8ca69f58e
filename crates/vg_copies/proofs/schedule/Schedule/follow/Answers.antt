-- The next move is done where none waits to read its destination.
use Rattle.std.proofs.Common.{◌<◌, ◌≤◌, ℕ, subst, rules}
use Rattle.std.specs.Prelude.{slice_index}
use Rattle.vg_copies.specs.Schedule.{Proceeds}
use Rattle.vg_copies.proofs.Proceed.{count_read, IsFree-uncounted, Proceeds-stops, Proceeds-goes_on}
use Rattle.vg_copies.proofs.schedule.Schedule.follow.Goals as goal

pub returns-then-index-gt0-clause-proceeds : goal.returns-then-index-gt0-clause-proceeds
returns-then-index-gt0-clause-proceeds c =
    let s = c.loop-next.self in
    let k = c.in-Some.number in
    let at = c.loop-next.invariant.waits k c.in-Some.is in
    let read = count_read s k c.index.result.now c.loop-next.invariant.sound at c.index.ensures in
    let some : 0 < slice_index s.readers.items k = subst (λ (n : ℕ). 0 < n) read c.if-index-gt0.true in
    Proceeds-stops c.args.self.now s c.args.start k some (subst (Proceeds c.args.self.now s c.args.start) c.in-Some.is c.loop-next.invariant.proceeds)

pub finish-requires-in-Some-clause-free : goal.finish-requires-in-Some-clause-free
finish-requires-in-Some-clause-free c =
    let s = c.loop-next.self in
    let k = c.in-Some.number in
    let at = c.loop-next.invariant.waits k c.in-Some.is in
    let read = count_read s k c.index.result.now c.loop-next.invariant.sound at c.index.ensures in
    let none : slice_index s.readers.items k ≤ 0 = subst (λ (n : ℕ). n ≤ 0) read c.if-index-gt0.false in
    IsFree-uncounted s k c.loop-next.invariant.sound at none

pub loop-next-preserved : goal.loop-next-preserved
loop-next-preserved c =
    let s = c.loop-next.self in
    let k = c.in-Some.number in
    record {
      sound = search rules;
      waits = search rules;
      proceeds = Proceeds-goes_on c.args.self.now s c.args.start _ k _ (subst (Proceeds c.args.self.now s c.args.start) c.in-Some.is c.loop-next.invariant.proceeds) c.in_ok-next-2.ensures.proceeds;
    }
