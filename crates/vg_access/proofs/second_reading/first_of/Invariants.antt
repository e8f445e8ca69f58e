use Rattle.std.proofs.Common.{◌≡◌, drop}
use Rattle.vg_access.specs.Unlike.{first_by}
use Rattle.vg_access.proofs.second_reading.first_of.Given as goal

abbrev pub invariant-loop-reading : goal.invariant-loop-reading
invariant-loop-reading l = first_by l.found (drop l.reading-index l.others) ≡ first_by l.first l.others
