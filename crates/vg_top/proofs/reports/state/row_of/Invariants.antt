use Rattle.std.proofs.Common.{◌≡◌, ◌+◌, map}
use Rattle.std.specs.List.{range_with_len}
use Rattle.vg_top.specs.Reports.State.{data_byte}
use Rattle.vg_top.proofs.reports.state.row_of.Given as goal

abbrev pub invariant-loop-k : goal.invariant-loop-k
invariant-loop-k g l = l.row.items ≡ map (λ k. data_byte l.isa l.image (g.M.View.reads l.machine).byte (l.at + k)) (range_with_len 0 l.k)
