-- The items, what is lacking, and the two parts behind stand in this order.
use Rattle.std.proofs.Common.{◌∙◌}
use Rattle.vg_names.proofs.FirstLemmas.{unknowns_of_parts}
use Rattle.vg_resolve.proofs.fault.first_unknown.Goals as goal

pub returns : goal.returns
returns c =
    unknowns_of_parts c.args.description.now c.in_ok-table.table.items.now _ _ _ _ _ _ _ (c.in_ok-table.ensures ∙ c.as_slice.ensures)
    c.or-3.ensures c.or-2.ensures c.or.ensures c.items.ensures c.lacking.ensures c.abi.ensures c.micro.ensures
