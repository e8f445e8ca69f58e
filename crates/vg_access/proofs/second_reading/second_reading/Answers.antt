use Rattle.std.proofs.Common.{◌<◌, length, ap, ◌∙◌, arith}
use Rattle.vg_stage.specs.Earliest.{least}
use Rattle.vg_access.specs.Unlike.{first_by, unlike}
use Rattle.vg_access.proofs.SecondReadings.{least_second, no_second}
use Rattle.vg_access.proofs.second_reading.second_reading.Goals as goal

pub returns-then-is_empty : goal.returns-then-is_empty
returns-then-is_empty c = no_second c.args.readings.now (grind arith)

pub returns : goal.returns
returns c =
    let rs = c.args.readings.now in
    let some : 0 < length rs = grind arith in
    c.least_unlike.ensures ∙ ap (λ f. least (unlike f rs)) (c.first_of-first.ensures ∙ ap (λ r. first_by r rs) c.index-readings-0.is)
    ∙ least_second rs c.index-readings-0.result some
