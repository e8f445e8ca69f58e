use Rattle.std.proofs.Common.{rules}
use Rattle.vg_names.specs.Cyclic.{IsOrder, IsFirstCyclic}
use Rattle.vg_const.proofs.Circles.{acyclic, first_cycle}
use Rattle.vg_const.proofs.folding.order.Goals as goal

pub returns-in-Sorted-clause-acyclic : goal.returns-in-Sorted-clause-acyclic
returns-in-Sorted-clause-acyclic c =
    let is : IsOrder c.args.d.now.items c.in-Sorted.order = search rules in
    acyclic c.args.d.now c.in-Sorted.order c.requires.distinct is

pub returns-in-Cyclic-clause-cyclic : goal.returns-in-Cyclic-clause-cyclic
returns-in-Cyclic-clause-cyclic c =
    let is : IsFirstCyclic c.args.d.now.items c.in-Cyclic.at = search rules in
    first_cycle c.args.d.now.items c.in-Cyclic.at is
