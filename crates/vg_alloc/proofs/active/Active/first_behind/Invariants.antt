use Rattle.std.proofs.Common.{◌≡◌}
use Rattle.std.specs.Prelude.{slice_get}
use Rattle.vg_alloc.specs.Ends.{EndsBy}
use Rattle.vg_alloc.specs.Active.{members}
use Rattle.vg_alloc.proofs.active.Active.first_behind.Given as goal

abbrev pub invariant-loop-passed : goal.invariant-loop-passed
invariant-loop-passed l = record {
  stands : l.current ≡ slice_get (members l.self) l._passed;
  front : EndsBy l.intervals l.place (members l.self) l._passed;
}
