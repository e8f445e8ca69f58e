use Rattle.std.proofs.Common.{◌≡◌, drop}
use Rattle.std.specs.List.{list_any}
use Rattle.vg_tree.specs.Access.{differ}
use Rattle.vg_access.specs.Given.{write_in, writes_in}
use Rattle.vg_access.proofs.following.is_written_otherwise.Given as goal

abbrev pub invariant-loop-other : goal.invariant-loop-other
invariant-loop-other l = list_any (differ (write_in l.write)) (writes_in l.others) ≡ list_any (differ (write_in l.write)) (writes_in (drop l.other-index l.others))
