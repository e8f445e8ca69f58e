use Rattle.std.proofs.Common.{IfSome, Result, Ok, Err}
use Rattle.std.proofs.lemmas.Result.{IfOk-weaker}
use Rattle.vg_top.proofs.Driving.{steps_on}
use Rattle.vg_top.proofs.driver.step.Goals as goal

pub returns-in-Text-clause-told : goal.returns-in-Text-clause-told
returns-in-Text-clause-told g c =
    IfOk-weaker c.read.result _ _
    (λ after right.
    steps_on g.T.Task.name g.T.Task.limit g.T.Task.more g.T.Task.behind c.args.task (g.F.Files.held c.args.files.now) c.in-Text.text c.as_slice.result.now after
    c.as_slice.ensures.value
    (rw (← c.file_name.ensures, ← c.file_limit.ensures.limit) (rw c.in-Text.is at c.in_ok-load_within.ensures.told)) right)
    c.read.ensures.right
