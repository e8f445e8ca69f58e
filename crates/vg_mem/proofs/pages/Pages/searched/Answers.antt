use Rattle.std.proofs.Common.{◌∙◌}
use Rattle.vg_mem.proofs.PageLemmas.{some_within}
use Rattle.vg_mem.proofs.pages.Pages.searched.Goals as goal

pub returns-clause-within : goal.returns-clause-within
returns-clause-within c = some_within c.args.self.now.pages.items c.args.number c.copied.result (c.copied.ensures ∙ c.get.ensures.value ∙ c.args.self.now.indexed c.args.number)
