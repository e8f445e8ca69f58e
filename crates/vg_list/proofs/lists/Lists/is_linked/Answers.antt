use Rattle.vg_list.proofs.Representation.{Represents_from_IsSound, leads_from_at}
use Rattle.vg_list.proofs.lists.Lists.is_linked.Goals as goal

pub returns : goal.returns
returns c =
    let sound = Represents_from_IsSound c.self.inside.arena c.args.self.now c.self.invariant c.self.view_is in
    let links = rw c.next.ensures at c.leads.ensures in (
      λ yes. sound.linked c.args.node (links.0 yes),
      λ linked. links.1 (leads_from_at c.self.inside.arena c.args.self.now sound linked.0 linked.1 c.args.node linked.2),
    )
