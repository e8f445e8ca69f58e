use Rattle.std.proofs.Common.{◌≡◌, ap, ◌∙◌}
use Rattle.vg_list.specs.NodeLists.{NodeLists, inserted_before}
use Rattle.vg_list.specs.Arena.{Represents, lists_of}
use Rattle.vg_list.proofs.Edits.{map-inserted_before}
use Rattle.vg_list.proofs.Representation.{Represents_from_IsSound, IsDisjoint_from_sound, lists_of-Represents, node_in_range, prev_in_range}
use Rattle.vg_list.proofs.Changes.{changed, Represents_inserted, IsSound_from_Represents}
use Rattle.vg_list.proofs.lists.Lists.insert_before.Goals as goal
use Rattle.vg_list.proofs.lists.Lists.insert_before.Goals.{After-join-2}

pub prev-before-requires : goal.prev-before-requires
prev-before-requires c =
    let sound = Represents_from_IsSound c.self.inside.arena c.args.self.now c.self.invariant c.self.view_is in
    node_in_range c.self.inside.arena c.args.self.now sound c.requires.at.0 c.requires.at.1 c.args.at c.requires.at.2

pub join-requires-clause-before : goal.join-requires-clause-before
join-requires-clause-before c =
    let sound = Represents_from_IsSound c.self.inside.arena c.args.self.now c.self.invariant c.self.view_is in
    rw c.prev-before.ensures (prev_in_range c.self.inside.arena c.args.self.now sound c.requires.at.0 c.requires.at.1 c.args.at c.requires.at.2)

-- the links after the call
inserted : (c : After-join-2) → Represents c.join-2.new.self (changed (inserted_before c.args.at c.args.node) c.args.self.now)
inserted c =
    let sound = Represents_from_IsSound c.self.inside.arena c.args.self.now c.self.invariant c.self.view_is in
    Represents_inserted
    c.self.inside.arena
    c.join.new.self
    c.join-2.new.self
    c.args.self.now
    sound
    c.join.ensures.counts
    c.join-2.ensures.counts
    c.args.at
    c.args.node
    c.requires.at
    c.requires.free
    (rw c.prev-before.ensures at c.join.ensures.links)
    c.join-2.ensures.links

pub invariant_of-self : goal.invariant_of-self
invariant_of-self c = IsSound_from_Represents c.join-2.new.self _ (inserted c)

value : (c : After-join-2) → lists_of c.join-2.new.self ≡ changed (inserted_before c.args.at c.args.node) c.args.self.now
value c = lists_of-Represents c.join-2.new.self _ (inserted c)

pub returns-clause-value : goal.returns-clause-value
returns-clause-value c = value c

pub returns-clause-place : goal.returns-clause-place
returns-clause-place c = λ list place at.
    let sound = Represents_from_IsSound c.self.inside.arena c.args.self.now c.self.invariant c.self.view_is in
    let disjoint = IsDisjoint_from_sound c.self.inside.arena c.args.self.now sound in
    ap (λ (all : NodeLists). all.lists) (value c) ∙ map-inserted_before c.args.self.now disjoint list place c.args.at c.args.node at
