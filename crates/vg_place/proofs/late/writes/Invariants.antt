use Rattle.std.proofs.Common.{◌≡◌, drop, flat_map, None}
use Rattle.vg_place.specs.Unplaced.{earliest, write_parts}
use Rattle.vg_place.proofs.late.writes.Given as goal

abbrev pub invariant-loop-w : goal.invariant-loop-w
invariant-loop-w l =
    earliest (flat_map (write_parts l.stages l.read_at) (drop l.w-index l.writes)) l.best ≡ earliest (flat_map (write_parts l.stages l.read_at) l.writes) None
