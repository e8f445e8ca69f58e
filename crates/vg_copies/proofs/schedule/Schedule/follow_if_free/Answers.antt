-- A move that none waits for is free.
use Rattle.std.proofs.Common.{◌≤◌, ℕ, Some, subst, sym, ap, ◌∙◌}
use Rattle.std.specs.Prelude.{slice_index}
use Rattle.std.proofs.lemmas.Option.{slice_get-get_or}
use Rattle.vg_copies.specs.declared.pending.Pending.{Pending}
use Rattle.vg_copies.specs.Schedule.{IsAt, Waits}
use Rattle.vg_copies.proofs.Proceed.{count_read, IsFree-uncounted}
use Rattle.vg_copies.proofs.schedule.Schedule.follow_if_free.Goals as goal

pub follow-requires-clause-free : goal.follow-requires-clause-free
follow-requires-clause-free c =
    let s = c.args.self.now in
    let i = c.args.number in
    let m = c.index.result.now in
    let here : IsAt s.moves.items i m = slice_get-get_or s.moves.items i m c.requires.number ∙ ap (λ (x : Pending). Some x) (sym c.index.ensures) in
    let at : (step : Pending) × Waits s.moves.items i step = (m, (here, c.if-index.false)) in
    let read = count_read s i c.index-else-index.result.now c.requires.sound at c.index-else-index.ensures in
    let none : slice_index s.readers.items i ≤ 0 = subst (λ (n : ℕ). n ≤ 0) read c.if-index-gt0.false in
    IsFree-uncounted s i c.requires.sound at none
