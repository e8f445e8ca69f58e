use Rattle.std.proofs.Common.{inr}
use Rattle.std.proofs.lemmas.Result.{IfOk-weaker}
use Rattle.vg_top.proofs.commands.run.image_answer.Goals as goal

pub returns-in-Err-clause-right : goal.returns-in-Err-clause-right
returns-in-Err-clause-right c =
    IfOk-weaker c.image_refused.result _ _ (λ answer refuses. inr refuses) (c.image_refused.ensures.right c.args.isa.now c.args.text.now c.in-Err.ensures.refused)
