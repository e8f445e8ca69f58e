-- the first place so far, and that of what is left
use Rattle.std.specs.Prelude.{◌≡◌, drop, flat_map}
use Rattle.vg_ircheck.specs.Place.{first_of, first_place}
use Rattle.vg_ircheck.specs.Counts.{case_excess}
use Rattle.vg_ircheck.proofs.counts.cases_beyond.Given as goal

abbrev pub invariant-loop-function : goal.invariant-loop-function
invariant-loop-function l = first_of l.first (first_place (flat_map case_excess (drop l.function-index l.functions))) ≡ first_place (flat_map case_excess l.functions)
