use Rattle.std.proofs.Common.{[], ◌++◌, sym, ◌∙◌}
use Rattle.vg_list.specs.NodeLists.{nodes_of}
use Rattle.vg_list.specs.Arena.{Represents}
use Rattle.vg_list.proofs.Representation.{Represents_from_IsSound, IsInRange_kept, lists_of-Represents, last_in_range, first_in_range, nodes_of-from_first}
use Rattle.vg_list.proofs.Changes.{with_list, Represents_spliced, with_list-spliced_nil, IsSound_from_Represents}
use Rattle.vg_list.proofs.lists.Lists.splice.Goals as goal
use Rattle.vg_list.proofs.lists.Lists.splice.Goals.{After-join-in-Node-2}

pub join-requires-clause-before : goal.join-requires-clause-before
join-requires-clause-before c =
    let sound = Represents_from_IsSound c.self.inside.arena c.args.self.now c.self.invariant c.self.view_is in
    rw c.prev-end.ensures (last_in_range c.self.inside.arena c.args.self.now sound c.args.to c.requires.to)

pub join-requires-clause-after : goal.join-requires-clause-after
join-requires-clause-after c =
    let sound = Represents_from_IsSound c.self.inside.arena c.args.self.now c.self.invariant c.self.view_is in
    rw c.next-first.ensures (first_in_range c.self.inside.arena c.args.self.now sound c.args.from c.requires.from)

pub join-requires-in-Node-clause-before : goal.join-requires-in-Node-clause-before
join-requires-in-Node-clause-before c =
    let sound = Represents_from_IsSound c.self.inside.arena c.args.self.now c.self.invariant c.self.view_is in
    IsInRange_kept
    c.self.inside.arena
    c.join.new.self
    c.prev-last.result
    c.join.ensures.counts
    (rw c.prev-last.ensures (last_in_range c.self.inside.arena c.args.self.now sound c.args.from c.requires.from))

-- the links after the call
spliced : (c : After-join-in-Node-2) → Represents c.join-in-Node-2.new.self (with_list (with_list c.args.self.now c.args.to (nodes_of c.args.self.now c.args.to ++ nodes_of c.args.self.now c.args.from)) c.args.from [])
spliced c =
    let sound = Represents_from_IsSound c.self.inside.arena c.args.self.now c.self.invariant c.self.view_is in
    let links = rw c.prev-end.ensures at c.join.ensures.links in
    Represents_spliced
    c.self.inside.arena
    c.join.new.self
    c.join-in-Node.new.self
    c.join-in-Node-2.new.self
    c.args.self.now
    sound
    c.join.ensures.counts
    c.join-in-Node.ensures.counts
    c.join-in-Node-2.ensures.counts
    c.args.from
    c.args.to
    c.in-Node.field-0
    c.requires.from
    c.requires.to
    c.requires.differ
    (sym c.next-first.ensures ∙ c.in-Node.is)
    (rw c.in-Node.is at links)
    (rw c.prev-last.ensures at c.join-in-Node.ensures.links)
    c.join-in-Node-2.ensures.links

pub invariant_of-self : goal.invariant_of-self
invariant_of-self c = IsSound_from_Represents c.join-in-Node-2.new.self _ (spliced c)

pub returns-in-Node : goal.returns-in-Node
returns-in-Node c = lists_of-Represents c.join-in-Node-2.new.self _ (spliced c)

pub returns-in_default : goal.returns-in_default
returns-in_default c =
    let sound = Represents_from_IsSound c.self.inside.arena c.args.self.now c.self.invariant c.self.view_is in
    let empty = nodes_of-from_first c.self.inside.arena c.args.self.now sound c.args.from c.requires.from (λ x is. c.in_default.not-Node x (c.next-first.ensures ∙ is)) in
    sym (with_list-spliced_nil c.args.self.now c.args.from c.args.to empty)
