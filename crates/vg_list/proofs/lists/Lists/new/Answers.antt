use Rattle.std.proofs.Common.{[], replicate}
use Rattle.vg_list.specs.Arena.{Represents}
use Rattle.vg_list.proofs.Representation.{lists_of-Represents}
use Rattle.vg_list.proofs.Changes.{IsSound_from_Represents}
use Rattle.vg_list.proofs.Growth.{from_nothing}
use Rattle.vg_list.proofs.lists.Lists.new.Goals as goal
use Rattle.vg_list.proofs.lists.Lists.new.Goals.{In_ok-grow}

-- the links after the call
grown_from_nothing : (c : In_ok-grow) → Represents c.grow.new.self (record { nodes = c.args.nodes; lists = replicate c.args.lists [] })
grown_from_nothing c =
    from_nothing c.grow.new.self c.new-arena.result c.args.nodes c.args.lists c.new-arena.ensures.nodes c.new-arena.ensures.sentinels c.in_ok-grow.ensures.ok

pub invariant_of-result : goal.invariant_of-result
invariant_of-result c = IsSound_from_Represents c.grow.new.self _ (grown_from_nothing c)

pub returns : goal.returns
returns c = lists_of-Represents c.grow.new.self _ (grown_from_nothing c)
