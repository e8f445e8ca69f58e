use Rattle.std.proofs.Common.{◌≡◌, ◌≤◌, ◌/◌, ◌%◌, ◌^◌, ◌-◌, ◌++◌, flat_map}
use Rattle.std.specs.List.{range_with_len}
use Rattle.vg_top.specs.Reports.State.{memory_line}
use Rattle.vg_top.proofs.reports.state.push_memory.Given as goal

abbrev pub invariant-loop-at : goal.invariant-loop-at
invariant-loop-at g l =
    (l.from % 16 ≡ 0) × (l.from ≤ 2 ^ l.isa.pc.width)
    × (l.out.items ≡ l.fn.out.items ++ flat_map (memory_line l.isa l.image (g.M.View.reads l.machine).byte) (range_with_len 0 (l.from / 16)))

abbrev pub decreases-loop-at : goal.decreases-loop-at
decreases-loop-at g l = 2 ^ 64 - l.from
