use Rattle.std.proofs.Common.{◌≡◌, ◌-◌, Some}
use Rattle.std.specs.Prelude.{slice_get}
use Rattle.vg_alloc.specs.Active.{members}
use Rattle.vg_alloc.proofs.active.Active.find_last.Given as goal

abbrev pub invariant-loop-passed : goal.invariant-loop-passed
invariant-loop-passed l = slice_get (members l.self) (l._passed - 1) ≡ Some l.last
