use Rattle.std.proofs.Common.{◌≡◌, drop}
use Rattle.std.specs.List.{list_any}
use Rattle.vg_tree.specs.Access.{same_item}
use Rattle.vg_access.specs.Given.{write_in, writes_in}
use Rattle.vg_access.proofs.following.is_written.Given as goal

abbrev pub invariant-loop-other : goal.invariant-loop-other
invariant-loop-other l = list_any (same_item (write_in l.write)) (writes_in l.path) ≡ list_any (same_item (write_in l.write)) (writes_in (drop l.other-index l.path))
