-- The set has the keys without where their names lie.
use Rattle.std.proofs.Common.{◌∙◌}
use Rattle.vg_names.proofs.MetLemmas.{contains_plain}
use Rattle.vg_names.proofs.table.Table.has.Goals as goal

pub returns : goal.returns
returns c = c.contains.ensures ∙ contains_plain (c.args.scope, c.args.text) c.args.self.now.inner.keys ∙ c.args.self.now.holds (c.args.scope, c.args.text.now)
