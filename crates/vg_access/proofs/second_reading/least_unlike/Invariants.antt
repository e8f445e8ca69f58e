use Rattle.vg_stage.proofs.IndexLemmas.{LeastLeft}
use Rattle.vg_access.specs.Unlike.{unlike_place}
use Rattle.vg_access.proofs.second_reading.least_unlike.Given as goal

abbrev pub invariant-loop-reading : goal.invariant-loop-reading
invariant-loop-reading l = LeastLeft (unlike_place l.first) l.readings l.reading-index l.found
