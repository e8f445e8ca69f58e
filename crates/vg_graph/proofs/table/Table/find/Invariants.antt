use Rattle.std.proofs.Common.{◌≡◌, ℕ, ◌<◌, Some}
use Rattle.std.specs.Prelude.{slice_get}
use Rattle.vg_list.specs.NodeLists.{nodes_of}
use Rattle.vg_graph.specs.Hashing.{bucket_of}
use Rattle.vg_graph.specs.Walk.{IsOnce, left_at}
use Rattle.vg_graph.proofs.table.Table.find.Given as goal

abbrev pub invariant-loop-current : goal.invariant-loop-current
invariant-loop-current l =
    let bucket = nodes_of l.self.buckets (bucket_of l.self.room l.node) in (
    (place : ℕ) × (l.current ≡ slice_get bucket place) × IsOnce bucket
    × ((i n : ℕ) → i < place → slice_get bucket i ≡ Some n → ¬ (slice_get l.nodes n ≡ Some l.node))
    )

abbrev pub decreases-loop-current : goal.decreases-loop-current
decreases-loop-current l = left_at (nodes_of l.self.buckets (bucket_of l.self.room l.node)) l.current
