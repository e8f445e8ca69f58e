use Rattle.std.proofs.Common.{ℕ, ◌<◌}
use Rattle.vg_names.specs.Graph.{Leads}
use Rattle.vg_names.proofs.circle.first_circular.Given as goal

abbrev pub invariant-loop-node : goal.invariant-loop-node
invariant-loop-node l = (k : ℕ) → k < l.node → ¬ Leads l.graph k k
