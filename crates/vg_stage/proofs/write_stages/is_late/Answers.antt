-- An act is too late where the first write that may not stand before it does.
use Rattle.std.proofs.Common.{ap, sym, ◌∙◌}
use Rattle.vg_stage.specs.StageMet.{first_stage, is_earlier, is_write_to}
use Rattle.vg_stage.specs.StageOrder.{acts_from}
use Rattle.vg_stage.proofs.StageLemmas.{late_Read, late_Resolve, late_Write, late_Compute}
use Rattle.vg_stage.proofs.write_stages.is_late.Goals as goal

pub returns-in-Read : goal.returns-in-Read
returns-in-Read c =
    c.is_below.ensures
    ∙ ap (λ o. is_earlier o c.args.stage) (c.write_of.ensures ∙ ap (λ t. first_stage (is_write_to t) (acts_from 0 c.args.writes.now.lines.now)) c.as_slice.ensures)
    ∙ sym (late_Read c.args.act.now c.args.stage c.args.writes.now.lines.now c.in-Read.at c.in-Read.resource c.in-Read.is)

pub returns-in-Resolve : goal.returns-in-Resolve
returns-in-Resolve c = c.is_below-in-Resolve.ensures ∙ ap (λ o. is_earlier o c.args.stage) c.any_write.ensures ∙ sym (late_Resolve c.args.act.now c.args.stage c.args.writes.now.lines.now c.in-Resolve.at c.in-Resolve.is)

pub returns-in-Write : goal.returns-in-Write
returns-in-Write c = sym (late_Write c.args.act.now c.args.stage c.args.writes.now.lines.now c.in-Write.at c.in-Write.resource c.in-Write.is)

pub returns-in-Compute : goal.returns-in-Compute
returns-in-Compute c = sym (late_Compute c.args.act.now c.args.stage c.args.writes.now.lines.now c.in-Compute.at c.in-Compute.is)
