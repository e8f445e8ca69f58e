use Rattle.std.proofs.Common.{ap, ◌∙◌}
use Rattle.vg_list.specs.Link.{node_of}
use Rattle.vg_list.proofs.Representation.{Represents_from_IsSound, IsDisjoint_from_sound, node_of-first_link}
use Rattle.vg_list.proofs.lists.Lists.first.Goals as goal

pub returns-clause-node : goal.returns-clause-node
returns-clause-node c =
    let sound = Represents_from_IsSound c.self.inside.arena c.args.self.now c.self.invariant c.self.view_is in
    c.node.ensures ∙ ap node_of c.next.ensures ∙ node_of-first_link c.self.inside.arena c.args.self.now sound c.args.list c.requires

pub returns-clause-disjoint : goal.returns-clause-disjoint
returns-clause-disjoint c =
    let sound = Represents_from_IsSound c.self.inside.arena c.args.self.now c.self.invariant c.self.view_is in
    IsDisjoint_from_sound c.self.inside.arena c.args.self.now sound
