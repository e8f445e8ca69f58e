use Rattle.std.proofs.Common.{◌≡◌, ap, ◌∙◌, arith}
use Rattle.vg_list.specs.NodeLists.{NodeLists, without}
use Rattle.vg_list.specs.Arena.{Represents, lists_of}
use Rattle.vg_list.proofs.Edits.{map-without}
use Rattle.vg_list.proofs.Representation.{Represents_from_IsSound, IsDisjoint_from_sound, lists_of-Represents, node_in_range, prev_in_range, next_in_range}
use Rattle.vg_list.proofs.Changes.{changed, Represents_removed, IsSound_from_Represents}
use Rattle.vg_list.proofs.lists.Lists.unlink.Goals as goal
use Rattle.vg_list.proofs.lists.Lists.unlink.Goals.{After-clear}

pub prev-before-requires : goal.prev-before-requires
prev-before-requires c =
    let sound = Represents_from_IsSound c.self.inside.arena c.args.self.now c.self.invariant c.self.view_is in
    node_in_range c.self.inside.arena c.args.self.now sound c.requires.0 c.requires.1 c.args.node c.requires.2

pub next-after-requires : goal.next-after-requires
next-after-requires c =
    let sound = Represents_from_IsSound c.self.inside.arena c.args.self.now c.self.invariant c.self.view_is in
    node_in_range c.self.inside.arena c.args.self.now sound c.requires.0 c.requires.1 c.args.node c.requires.2

pub join-requires-clause-before : goal.join-requires-clause-before
join-requires-clause-before c =
    let sound = Represents_from_IsSound c.self.inside.arena c.args.self.now c.self.invariant c.self.view_is in
    rw c.prev-before.ensures (prev_in_range c.self.inside.arena c.args.self.now sound c.requires.0 c.requires.1 c.args.node c.requires.2)

pub join-requires-clause-after : goal.join-requires-clause-after
join-requires-clause-after c =
    let sound = Represents_from_IsSound c.self.inside.arena c.args.self.now c.self.invariant c.self.view_is in
    rw c.next-after.ensures (next_in_range c.self.inside.arena c.args.self.now sound c.requires.0 c.requires.1 c.args.node c.requires.2)

pub clear-requires : goal.clear-requires
clear-requires c =
    let sound = Represents_from_IsSound c.self.inside.arena c.args.self.now c.self.invariant c.self.view_is in
    let before = node_in_range c.self.inside.arena c.args.self.now sound c.requires.0 c.requires.1 c.args.node c.requires.2 in
    omega (arith, before, c.join.ensures.counts.nodes)

-- the links after the call
removed : (c : After-clear) → Represents c.clear.new.self (changed (without c.args.node) c.args.self.now)
removed c =
    let sound = Represents_from_IsSound c.self.inside.arena c.args.self.now c.self.invariant c.self.view_is in
    let links = rw c.prev-before.ensures at c.join.ensures.links in
    Represents_removed
    c.self.inside.arena
    c.join.new.self
    c.clear.new.self
    c.args.self.now
    sound
    c.join.ensures.counts
    c.clear.ensures.counts
    c.args.node
    c.requires
    (rw c.next-after.ensures at links)
    c.clear.ensures.links

pub invariant_of-self : goal.invariant_of-self
invariant_of-self c = IsSound_from_Represents c.clear.new.self _ (removed c)

value : (c : After-clear) → lists_of c.clear.new.self ≡ changed (without c.args.node) c.args.self.now
value c = lists_of-Represents c.clear.new.self _ (removed c)

pub returns-clause-value : goal.returns-clause-value
returns-clause-value c = value c

pub returns-clause-place : goal.returns-clause-place
returns-clause-place c = λ list place at.
    let sound = Represents_from_IsSound c.self.inside.arena c.args.self.now c.self.invariant c.self.view_is in
    let disjoint = IsDisjoint_from_sound c.self.inside.arena c.args.self.now sound in
    ap (λ (all : NodeLists). all.lists) (value c) ∙ map-without c.args.self.now disjoint list place c.args.node at
