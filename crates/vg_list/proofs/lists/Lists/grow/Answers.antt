use Rattle.std.proofs.Common.{◌≡◌}
use Rattle.std.specs.Prelude.{OnOk, OnErr}
use Rattle.vg_list.specs.Arena.{lists_of, IsSound}
use Rattle.vg_list.proofs.Representation.{Represents_from_IsSound}
use Rattle.vg_list.proofs.Growth.{grown, after_growth}
use Rattle.vg_list.proofs.lists.Lists.grow.Goals as goal
use Rattle.vg_list.proofs.lists.Lists.grow.Goals.{After-grow}

-- the links after the call
outcome : (c : After-grow) → IsSound c.grow.new.self × OnOk c.grow.result (lists_of c.grow.new.self ≡ grown c.args.self.now c.args.nodes c.args.lists) × OnErr c.grow.result (lists_of c.grow.new.self ≡ c.args.self.now)
outcome c =
    let sound = Represents_from_IsSound c.self.inside.arena c.args.self.now c.self.invariant c.self.view_is in
    after_growth c.grow.result c.self.inside.arena c.grow.new.self c.args.self.now c.args.nodes c.args.lists sound c.grow.ensures.ok c.grow.ensures.err

pub invariant_of-self : goal.invariant_of-self
invariant_of-self c = (outcome c).0

pub returns-clause-ok : goal.returns-clause-ok
returns-clause-ok c = (outcome c).1

pub returns-clause-err : goal.returns-clause-err
returns-clause-err c = (outcome c).2
