use Rattle.std.proofs.Common.{◌≡◌, ℕ, ◌<◌, true, None, map, filter, length}
use Rattle.vg_copies.specs.declared.pending.Pending.{Pending}
use Rattle.vg_copies.specs.Copies.{leaves}
use Rattle.vg_copies.specs.Schedule.{IsAt, Waits, IsBlocked, IsSound, ends_of}
use Rattle.vg_copies.proofs.ordering.order.Given as goal

abbrev pub invariant-loop-number : goal.invariant-loop-number
invariant-loop-number l = record {
  sound : IsSound None l.schedule;
  spare : l.schedule.spare ≡ l.fn.spare;
  moves : map ends_of l.schedule.moves.items ≡ filter leaves l.moves;
  count : length l.schedule.moves.items ≡ l.number-end;
  blocked : (k : ℕ) (step : Pending) → k < l.number → Waits l.schedule.moves.items k step → IsBlocked l.schedule k;
}

abbrev pub invariant-loop-number-2 : goal.invariant-loop-number-2
invariant-loop-number-2 l = record {
  sound : IsSound None l.schedule;
  spare : l.schedule.spare ≡ l.fn.spare;
  moves : map ends_of l.schedule.moves.items ≡ filter leaves l.moves;
  count : length l.schedule.moves.items ≡ l.number-end;
  blocked : (k : ℕ) (step : Pending) → Waits l.schedule.moves.items k step → IsBlocked l.schedule k;
  done : (k : ℕ) (step : Pending) → k < l.number → IsAt l.schedule.moves.items k step → step.is_done ≡ true;
}
