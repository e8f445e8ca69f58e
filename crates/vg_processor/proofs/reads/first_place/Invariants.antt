use Rattle.std.proofs.Common.{◌≡◌, drop}
use Rattle.vg_processor.specs.Outcome.{first_place, nearer}
use Rattle.vg_processor.proofs.reads.first_place.Given as goal

abbrev pub invariant-loop-reading : goal.invariant-loop-reading
invariant-loop-reading l = nearer l.first (first_place (drop l.reading-index l.readings)) ≡ first_place l.readings
