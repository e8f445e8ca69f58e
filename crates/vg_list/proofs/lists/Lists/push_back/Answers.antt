use Rattle.std.proofs.Common.{[], ◌∷◌, ◌++◌}
use Rattle.vg_list.specs.NodeLists.{nodes_of}
use Rattle.vg_list.specs.Arena.{Represents}
use Rattle.vg_list.proofs.Representation.{Represents_from_IsSound, lists_of-Represents, last_in_range}
use Rattle.vg_list.proofs.Changes.{with_list, Represents_pushed, IsSound_from_Represents}
use Rattle.vg_list.proofs.lists.Lists.push_back.Goals as goal
use Rattle.vg_list.proofs.lists.Lists.push_back.Goals.{After-join-2}

pub join-requires-clause-before : goal.join-requires-clause-before
join-requires-clause-before c =
    let sound = Represents_from_IsSound c.self.inside.arena c.args.self.now c.self.invariant c.self.view_is in
    rw c.prev-before.ensures (last_in_range c.self.inside.arena c.args.self.now sound c.args.list c.requires.list)

-- the links after the call
pushed : (c : After-join-2) → Represents c.join-2.new.self (with_list c.args.self.now c.args.list (nodes_of c.args.self.now c.args.list ++ c.args.node ∷ []))
pushed c =
    let sound = Represents_from_IsSound c.self.inside.arena c.args.self.now c.self.invariant c.self.view_is in
    Represents_pushed
    c.self.inside.arena
    c.join.new.self
    c.join-2.new.self
    c.args.self.now
    sound
    c.join.ensures.counts
    c.join-2.ensures.counts
    c.args.list
    c.args.node
    c.requires.list
    c.requires.free
    (rw c.prev-before.ensures at c.join.ensures.links)
    c.join-2.ensures.links

pub invariant_of-self : goal.invariant_of-self
invariant_of-self c = IsSound_from_Represents c.join-2.new.self _ (pushed c)

pub returns : goal.returns
returns c = lists_of-Represents c.join-2.new.self _ (pushed c)
