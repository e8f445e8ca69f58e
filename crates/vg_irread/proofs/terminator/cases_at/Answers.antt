-- One case more.
use Rattle.std.proofs.Common.{◌≡◌, true, sym, ◌∙◌}
use Rattle.vg_irparse.specs.Placed.{placed}
use Rattle.vg_irparse.specs.ReadingType.{most_brackets}
use Rattle.vg_irread.specs.ReadingType.{type_kinds}
use Rattle.vg_irread.specs.ReadingTerminator.{case_at}
use Rattle.vg_irread.proofs.Loops.{many_goes_on}
use Rattle.vg_irread.proofs.terminator.cases_at.Goals as goal

pub loop-fuel-preserved : goal.loop-fuel-preserved
loop-fuel-preserved c =
    many_goes_on type_kinds case_at c.loop-fuel.fuel c.loop-fuel.cases most_brackets (placed c.args.text.now c.loop-fuel.rest.now) _
    c.in_ok-case.case (placed c.args.text.now c.in_ok-case.behind.now) _
    c.loop-fuel-test.true (sym c.begins_type.ensures ∙ c.if-not-begins_type.false) c.loop-fuel.invariant c.in_ok-case.ensures c.in_ok-push.ensures.ok
