use Rattle.std.proofs.Common.{◌≡◌}
use Rattle.vg_irparse.specs.Placed.{placed}
use Rattle.vg_irparse.specs.ReadingType.{most_brackets}
use Rattle.vg_irread.specs.Reading.{many_from}
use Rattle.vg_irread.specs.ReadingType.{type_kinds}
use Rattle.vg_irread.specs.ReadingTerminator.{case_at, cases_at}
use Rattle.vg_irread.proofs.terminator.cases_at.Given as goal

-- the cases from here on, with those so far, are all of them
abbrev pub invariant-loop-fuel : goal.invariant-loop-fuel
invariant-loop-fuel l =
    many_from l.fuel type_kinds case_at l.cases most_brackets (placed l.text l.rest) ≡ cases_at most_brackets (placed l.text l.fn.tokens)

abbrev pub decreases-loop-fuel : goal.decreases-loop-fuel
decreases-loop-fuel l = l.fuel
