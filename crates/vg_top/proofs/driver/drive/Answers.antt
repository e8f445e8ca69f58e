use Rattle.std.proofs.Common.{◌∙◌}
use Rattle.vg_top.proofs.Driving.{along_step, told_answer, asks_answer, asks_lost}
use Rattle.vg_top.proofs.driver.drive.Goals as goal

pub returns-in_err-answer-clause-asked : goal.returns-in_err-answer-clause-asked
returns-in_err-answer-clause-asked g c =
    asks_lost g.T.Task.name g.T.Task.limit g.T.Task.more g.T.Task.behind c.args.task c.loop-answer.task (g.F.Files.held c.args.files.now)
    (g.F.Files.asked c.args.files.now) (g.F.Files.asked c.loop-answer.files) (g.F.Files.asked c.step.new.files) c.from_residual.result
    c.from_residual.ensures.0 c.loop-answer.invariant.0 c.in_err-answer.ensures.asked

pub returns-in-Answer-clause-told : goal.returns-in-Answer-clause-told
returns-in-Answer-clause-told g c =
    told_answer g.T.Task.name g.T.Task.limit g.T.Task.more g.T.Task.behind c.args.task c.loop-answer.task (g.F.Files.held c.args.files.now) (g.F.Files.held c.loop-answer.files)
    (g.F.Files.asked c.args.files.now) (g.F.Files.asked c.loop-answer.files) (g.F.Files.asked c.step.new.files) c.in_ok-answer.field-0 c.in-Answer.answer
    c.in-Answer.is c.loop-answer.invariant.2 c.loop-answer.invariant.0 c.in_ok-answer.ensures.asked c.in_ok-answer.ensures.told

pub returns-in-Answer-clause-asked : goal.returns-in-Answer-clause-asked
returns-in-Answer-clause-asked g c =
    asks_answer g.T.Task.name g.T.Task.limit g.T.Task.more g.T.Task.behind c.args.task c.loop-answer.task (g.F.Files.held c.args.files.now)
    (g.F.Files.asked c.args.files.now) (g.F.Files.asked c.loop-answer.files) (g.F.Files.asked c.step.new.files) c.in_ok-answer.field-0 c.in-Answer.answer
    c.in-Answer.is c.loop-answer.invariant.0 c.in_ok-answer.ensures.asked c.in_ok-answer.ensures.names c.in_ok-answer.ensures.replies

pub loop-answer-preserved : goal.loop-answer-preserved
loop-answer-preserved g c = (
  along_step g.T.Task.name g.T.Task.limit g.T.Task.more g.T.Task.behind c.args.task c.loop-answer.task c.in-Ask.next (g.F.Files.held c.args.files.now) (g.F.Files.held c.loop-answer.files)
      (g.F.Files.asked c.args.files.now) (g.F.Files.asked c.loop-answer.files) (g.F.Files.asked c.step.new.files) c.in_ok-answer.field-0
      c.in-Ask.is c.loop-answer.invariant.2 c.loop-answer.invariant.0 c.in_ok-answer.ensures.asked c.in_ok-answer.ensures.names c.in_ok-answer.ensures.told,
  rw c.in-Ask.is at c.in_ok-answer.ensures.at_once ∙ c.loop-answer.invariant.1,
  c.in_ok-answer.ensures.same ∙ c.loop-answer.invariant.2,
)
