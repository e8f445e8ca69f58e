-- The slice lends the item of the number.
use Rattle.std.proofs.Common.{◌∙◌}
use Rattle.vg_names.proofs.InnerLemmas.{got_at, numbered_item}
use Rattle.vg_names.proofs.table.Table.item.Goals as goal

pub returns : goal.returns
returns c =
    got_at c.args.self.now.items.now c.in_ok-number.number c.get.result c.get.ensures.lookup
    ∙ numbered_item c.args.self.now.items.now c.args.text.now c.in_ok-number.number c.in_ok-number.ensures
