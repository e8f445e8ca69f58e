-- The map has the first stage of each name.
use Rattle.std.proofs.Common.{◌∙◌}
use Rattle.vg_stage.proofs.write_stages.write_of.Goals as goal

pub returns : goal.returns
returns c = c.copied.ensures ∙ c.get.ensures.value ∙ c.args.writes.now.each c.args.text.now
