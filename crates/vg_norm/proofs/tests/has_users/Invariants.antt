use Rattle.std.proofs.Common.{◌≡◌, ℕ}
use Rattle.std.specs.Prelude.{slice_get}
use Rattle.vg_graph.specs.Graph.{users_of}
use Rattle.vg_norm.proofs.tests.has_users.Given as goal

-- the walk stands at a place in the list of the node
abbrev pub invariant-loop-edge : goal.invariant-loop-edge
invariant-loop-edge l = (place : ℕ) × (l.current ≡ slice_get (users_of l.graph l.n) place)
