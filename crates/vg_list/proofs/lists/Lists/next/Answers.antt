use Rattle.std.proofs.Common.{ap, ◌∙◌, add-one}
use Rattle.vg_list.specs.Link.{node_of}
use Rattle.vg_list.proofs.Representation.{Represents_from_IsSound, IsDisjoint_from_sound, node_in_range, node_of-next_link}
use Rattle.vg_list.proofs.lists.Lists.next.Goals as goal

pub next-requires : goal.next-requires
next-requires c =
    let sound = Represents_from_IsSound c.self.inside.arena c.args.self.now c.self.invariant c.self.view_is in
    node_in_range c.self.inside.arena c.args.self.now sound c.requires.0 c.requires.1 c.args.node c.requires.2

pub returns-clause-node : goal.returns-clause-node
returns-clause-node c =
    let sound = Represents_from_IsSound c.self.inside.arena c.args.self.now c.self.invariant c.self.view_is in
    λ list place at. rw add-one (c.node.ensures ∙ ap node_of c.next.ensures ∙ node_of-next_link c.self.inside.arena c.args.self.now sound list place c.args.node at)

pub returns-clause-disjoint : goal.returns-clause-disjoint
returns-clause-disjoint c =
    let sound = Represents_from_IsSound c.self.inside.arena c.args.self.now c.self.invariant c.self.view_is in
    IsDisjoint_from_sound c.self.inside.arena c.args.self.now sound
