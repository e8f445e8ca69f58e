use Rattle.std.proofs.Common.{◌≡◌, ℕ, ◌+◌, subst, arith}
use Rattle.vg_graph.specs.Store.{LinkedBelow}
use Rattle.vg_graph.proofs.store.link_operands.Goals as goal

pub link-requires-in-Three-3-clause-below : goal.link-requires-in-Three-3-clause-below
link-requires-in-Three-3-clause-below c =
    let same : c.args.edge + 1 + 1 ≡ c.args.edge + 2 = omega arith in
    subst (λ (n : ℕ). LinkedBelow c.link-in-Three-2.new.users n) same c.link-in-Three-2.ensures.below
